-- What the code builds: expressions, statements and lists of them in a world of the code.
use Rattle.std.specs.Borrow.{Bor}
use Rattle.std.specs.Prelude.{Bool, false, ◌&&◌, if◌then◌else◌, List, [], ◌∷◌, ◌++◌, map, Option, Some, None}
use Rattle.std.specs.List.{filter}
use Rattle.std.specs.Option.{option_map}
use Rattle.c_lang.specs.Names.{Bytes}
use Rattle.c_lang.specs.Programs.{no_func}
use Rattle.c_lang.specs.Trees.{Expression, Statement, expression_of, expr_of, statement_of, stmt_of, stmts_of}
use Rattle.c_lang.specs.declared.expr.Expr.{Expr}
use Rattle.c_lang.specs.declared.unit.Pos.{Pos}
use Rattle.c_lang.specs.declared.stmt.Kind.{Kind}
use Rattle.c_lang.specs.declared.stmt.Dest.{Dest}
use Rattle.c_lang.specs.declared.stmt.Stmt.{Stmt}
use Rattle.c_lang.specs.declared.program.Func.{Func}
use Rattle.c_lang.specs.declared.program.Program.{Program}
use Rattle.c_types.specs.Bodies.{body_of}
use Rattle.c_types.specs.Endings.{can_end}
use Rattle.c_types.specs.Functions.{is_main}
use Rattle.version_names.specs.Merged.{merged_name}
use Rattle.version_names.specs.Provenance.{Provenance}
use Rattle.version_names.specs.Provenance as origin
use Rattle.version_names.specs.declared.part.Origin.{Origin}
use Rattle.version_names.specs.declared.part.Origin.TheVariants as prefix
use Rattle.update_semantics.specs.Worlds.{World, world_of}
use Rattle.merged_program.specs.Names.{variable_name, function_name}
use Rattle.merged_program.specs.Expressions.{renamed_dest, renamed, all_renamed, renamed_option}
use Rattle.merged_program.specs.Statements.{hand, wrapping, return_zero, merged_statement, merged_statements}
use Rattle.merged_program.specs.Programs.{declared, wrapper, is_wrapped, merged_param, merged_globals}

abbrev pub prefix_of : Provenance → Origin
prefix_of origin.Old = prefix.Old
prefix_of origin.New = prefix.New
prefix_of origin.Xform = prefix.Xform
prefix_of origin.Client = prefix.Client

-- a version's `main` whose end can be reached
abbrev pub ends_open : Provenance → Func → Bool
ends_open origin.Old f = is_main f.name && can_end (body_of f.body)
ends_open origin.New f = is_main f.name && can_end (body_of f.body)
ends_open origin.Xform f = false
ends_open origin.Client f = false

module _ (w : World) (o : Provenance) where
  abbrev pub variable : Bytes → Bytes
  variable = variable_name (world_of w) o

  abbrev pub function : Bytes → Bytes
  function = function_name (world_of w) o

  abbrev pub mirrored_expression : Expression → Expr
  mirrored_expression e = expr_of (renamed variable function e)

  abbrev pub expression : Expr → Expr
  expression e = mirrored_expression (expression_of e)

  abbrev pub expressions : List Expr → List Expr
  expressions es = map expr_of (all_renamed variable function (map expression_of es))

  abbrev pub optional : Option Expr → Option Expr
  optional e = option_map expr_of (renamed_option variable function (option_map expression_of e))

  abbrev pub dest : Dest → Dest
  dest d = renamed_dest variable d

  abbrev pub mirrored : Statement → Stmt
  mirrored s = stmt_of (merged_statement (world_of w).permits (variable_name (world_of w)) (function_name (world_of w)) o s)

  abbrev pub statement : Stmt → Stmt
  statement s = mirrored (statement_of s)

  abbrev pub statements : List Stmt → List Stmt
  statements ss = stmts_of (merged_statements (world_of w).permits (variable_name (world_of w)) (function_name (world_of w)) o (body_of ss))

  -- a function of code of this origin with a body that is merged
  abbrev pub with_body : Func → List Stmt → Func
  with_body f body =
      record { name = merged_name (prefix_of o) f.name; params = map (merged_param (world_of w) o) f.params; gives = f.gives; body = body; pos = f.pos }

  -- its merged body, which gives 0 where it is that of a version's `main` that can end
  abbrev pub closed_body : Func → List Stmt
  closed_body f = statements f.body ++ (if ends_open o f then stmt_of (return_zero f.pos) ∷ [] else [])

  abbrev pub code_func : Func → Func
  code_func f = with_body f (closed_body f)

module _ (w : World) where
  -- the functions of both versions and the wrappers
  abbrev pub version_funcs : List Func
  version_funcs =
      map (code_func w origin.Old) (world_of w).first.funcs
      ++ (map (code_func w origin.New) (world_of w).second.funcs
      ++ map wrapper (filter (is_wrapped (world_of w)) (world_of w).first.funcs))

  -- the program with these functions
  abbrev pub with_funcs : List Func → Program
  with_funcs fs = record { globals = merged_globals (world_of w); protos = map declared fs; funcs = fs; early = [] }

abbrev pub wrapper_statement : Func → List (Kind × Bytes) → Stmt
wrapper_statement f params = stmt_of (wrapping f.pos f.gives (merged_name prefix.New f.name) (merged_name prefix.Old f.name) params)

-- where the function stands, and whether it gives a value
abbrev pub head_of : Option (Bor Func) → Pos × Bool
head_of None = (no_func.pos, no_func.gives)
head_of (Some f) = (f.now.pos, f.now.gives)

abbrev pub starting_body : Pos → Bool → Bytes → List Stmt
starting_body p gives name = stmts_of (hand p gives name []) ++ (if gives then [] else stmt_of (return_zero p) ∷ [])
