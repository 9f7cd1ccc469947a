-- Programs without what resolution adds: a function's name as a value is a variable again, null the
-- literal 0, and a call through a pointer a call.
use Rattle.std.specs.Prelude.{pos, Bool, List, map}
use Rattle.std.specs.Option.{option_map}
use Rattle.c_lang.specs.Names.{Bytes}
use Rattle.c_lang.specs.Trees.{stmts_of, Expression, literal, variable, element, function, null, negation, logical_not, binary, Statement, Statements, skip, set, set_element, call, call_by, if_else, while_loop, break_loop, return_with, assert_that, input, output, point, choice, force, pick, none, more}
use Rattle.c_lang.specs.declared.unit.Pos.{Pos}
use Rattle.c_lang.specs.declared.stmt.Kind.{Kind}
use Rattle.c_lang.specs.declared.program.GlobalVar.{GlobalVar}
use Rattle.c_lang.specs.declared.program.Proto.{Proto}
use Rattle.c_lang.specs.declared.program.Func.{Func}
use Rattle.c_lang.specs.declared.program.Program.{Program}
use Rattle.c_types.specs.Bodies.{body_of}

abbrev pub plain_expression : Expression → Expression
plain_expression (literal z) = literal z
plain_expression (variable x) = variable x
plain_expression (element a i) = element a (plain_expression i)
plain_expression (function f) = variable f
plain_expression null = literal (pos 0)
plain_expression (negation e) = negation (plain_expression e)
plain_expression (logical_not e) = logical_not (plain_expression e)
plain_expression (binary o a b) = binary o (plain_expression a) (plain_expression b)

abbrev mutual
  pub plain_statement : Statement → Statement
  plain_statement (skip p) = skip p
  plain_statement (set p d e) = set p d (plain_expression e)
  plain_statement (set_element p a i e) = set_element p a (plain_expression i) (plain_expression e)
  plain_statement (call p d f es) = call p d f (map plain_expression es)
  plain_statement (call_by p d x es) = call p d x (map plain_expression es)
  plain_statement (if_else p e xs ys) = if_else p (plain_expression e) (plain_statements xs) (plain_statements ys)
  plain_statement (while_loop p e xs) = while_loop p (plain_expression e) (plain_statements xs)
  plain_statement (break_loop p) = break_loop p
  plain_statement (return_with p e) = return_with p (option_map plain_expression e)
  plain_statement (assert_that p e) = assert_that p (plain_expression e)
  plain_statement (input p d) = input p d
  plain_statement (output p e) = output p (plain_expression e)
  plain_statement (point p k) = point p k
  plain_statement (choice p d k) = choice p d k
  plain_statement (force p) = force p
  plain_statement (pick p a b) = pick p (plain_statement a) (plain_statement b)

  pub plain_statements : Statements → Statements
  plain_statements none = none
  plain_statements (more s ss) = more (plain_statement s) (plain_statements ss)

pub record PlainFunc : Type 0 where
  pub name : Bytes
  pub params : List (Kind × Bytes)
  pub gives : Bool
  pub body : Statements
  pub pos : Pos

abbrev pub plain_func : Func → PlainFunc
plain_func f = record { name = f.name; params = f.params; gives = f.gives; body = plain_statements (body_of f.body); pos = f.pos }

pub record PlainProgram : Type 0 where
  pub globals : List GlobalVar
  pub protos : List Proto
  pub funcs : List PlainFunc

abbrev pub plain_program : Program → PlainProgram
plain_program p = record { globals = p.globals; protos = p.protos; funcs = map plain_func p.funcs }

-- ---- the way back

abbrev pub built_func : PlainFunc → Func
built_func f = record { name = f.name; params = f.params; gives = f.gives; body = stmts_of f.body; pos = f.pos }

-- the program whose resolved form a typed program can be
abbrev pub plain : Program → Program
plain P = record { globals = P.globals; protos = P.protos; funcs = map built_func (plain_program P).funcs; early = P.early }
