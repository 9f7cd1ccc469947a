-- A body as plain data.
use Rattle.std.specs.Prelude.{List, map}
use Rattle.c_lang.specs.Trees.{Statements, statement_of, statements}
use Rattle.c_lang.specs.declared.stmt.Stmt.{Stmt}

abbrev pub body_of : List Stmt → Statements
body_of ss = statements (map statement_of ss)
