-- The end of an `if` whose `else` has a statement.
use Rattle.std.proofs.Common.{◌≡◌, false, List, [], ◌∷◌, ◌++◌, map, length, ◌==◌, refl, codes}
use Rattle.c_lang.specs.Names.{Bytes}
use Rattle.c_lang.specs.Trees.{statement_of, statements}
use Rattle.c_lang.specs.declared.stmt.Stmt.{Stmt}
use Rattle.merge_printer.specs.Statements.{else_text}

pub else_text_some : (stmts : List Stmt) (text : Bytes) → false ≡ (length stmts == 0)
    → else_text (statements (map statement_of stmts)) text ≡ codes "} else {\n" ++ (text ++ codes "}\n")
else_text_some [] text some = absurd cc
else_text_some (s ∷ ss) text some = refl
