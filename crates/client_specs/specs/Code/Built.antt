-- What the code builds: expressions, statements and lists of them with their names spelled.
use Rattle.std.specs.Prelude.{List, map, Option}
use Rattle.std.specs.Option.{option_map}
use Rattle.c_lang.specs.Trees.{Expression, Statement, expression_of, expr_of, statement_of, stmt_of, stmts_of}
use Rattle.c_lang.specs.declared.expr.Expr.{Expr}
use Rattle.c_lang.specs.declared.stmt.Stmt.{Stmt}
use Rattle.c_types.specs.Bodies.{body_of}
use Rattle.version_names.specs.Parts.{Parts}
use Rattle.client_specs.specs.declared.region.Region.{Region}
use Rattle.client_specs.specs.Spelled.{spelled_expression, spelled_statement, spelled_statements}

module _ (parts : Parts) (region : Region) where
  abbrev pub mirrored_expression : Expression → Expr
  mirrored_expression e = expr_of (spelled_expression parts region e)

  abbrev pub expression : Expr → Expr
  expression e = mirrored_expression (expression_of e)

  abbrev pub expressions : List Expr → List Expr
  expressions es = map expr_of (map (spelled_expression parts region) (map expression_of es))

  abbrev pub optional : Option Expr → Option Expr
  optional e = option_map expr_of (option_map (spelled_expression parts region) (option_map expression_of e))

  abbrev pub mirrored : Statement → Stmt
  mirrored s = stmt_of (spelled_statement parts region s)

  abbrev pub statement : Stmt → Stmt
  statement s = mirrored (statement_of s)

  abbrev pub statements : List Stmt → List Stmt
  statements ss = stmts_of (spelled_statements parts region (body_of ss))
