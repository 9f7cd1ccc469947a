-- Expressions and statements as plain data, on which definitions go by cases. The Rust types lead
-- back to themselves through boxes and lists, so no definition can match on them below their
-- outermost level.
use Rattle.std.specs.Prelude.{ℕ, ℤ, List, [], ◌∷◌, map, Option}
use Rattle.std.specs.Option.{option_map}
use Rattle.c_lang.specs.Names.{Bytes}
use Rattle.c_lang.specs.declared.unit.Pos.{Pos}
use Rattle.c_lang.specs.declared.expr.Op.{Op}
use Rattle.c_lang.specs.declared.expr.Expr.{Expr, fold-Expr}
use Rattle.c_lang.specs.declared.expr.Expr.TheOpen.{Expr-F}
use Rattle.c_lang.specs.declared.expr.Expr.TheVariants as expr
use Rattle.c_lang.specs.declared.stmt.Dest.{Dest}
use Rattle.c_lang.specs.declared.stmt.Stmt.{Stmt, fold-Stmt}
use Rattle.c_lang.specs.declared.stmt.Stmt.TheOpen.{Stmt-F}
use Rattle.c_lang.specs.declared.stmt.Stmt.TheVariants as stmt

pub data Expression : Type 0 where
  literal : ℤ → Expression
  variable : Bytes → Expression
  element : Bytes → Expression → Expression
  function : Bytes → Expression
  null : Expression
  negation : Expression → Expression
  logical_not : Expression → Expression
  binary : Op → Expression → Expression → Expression

abbrev pub expression_step : Expr-F Expression → Expression
expression_step (Expr-F.Lit z) = literal z
expression_step (Expr-F.Var x) = variable x
expression_step (Expr-F.Elem a i) = element a i
expression_step (Expr-F.FunRef f) = function f
expression_step Expr-F.Null = null
expression_step (Expr-F.Neg e) = negation e
expression_step (Expr-F.Not e) = logical_not e
expression_step (Expr-F.Bin o a b) = binary o a b

abbrev pub expression_of : Expr → Expression
expression_of = fold-Expr Expression expression_step

-- the way back
abbrev pub expr_of : Expression → Expr
expr_of (literal z) = expr.Lit z
expr_of (variable x) = expr.Var x
expr_of (element a i) = expr.Elem a (expr_of i)
expr_of (function f) = expr.FunRef f
expr_of null = expr.Null
expr_of (negation e) = expr.Neg (expr_of e)
expr_of (logical_not e) = expr.Not (expr_of e)
expr_of (binary o a b) = expr.Bin o (expr_of a) (expr_of b)

mutual
  pub data Statement : Type 0 where
    skip : Pos → Statement
    set : Pos → Dest → Expression → Statement
    set_element : Pos → Bytes → Expression → Expression → Statement
    call : Pos → Dest → Bytes → List Expression → Statement
    call_by : Pos → Dest → Bytes → List Expression → Statement
    if_else : Pos → Expression → Statements → Statements → Statement
    while_loop : Pos → Expression → Statements → Statement
    break_loop : Pos → Statement
    return_with : Pos → Option Expression → Statement
    assert_that : Pos → Expression → Statement
    input : Pos → Dest → Statement
    output : Pos → Expression → Statement
    point : Pos → ℕ → Statement
    choice : Pos → Dest → ℕ → Statement
    force : Pos → Statement
    pick : Pos → Statement → Statement → Statement

  pub data Statements : Type 0 where
    none : Statements
    more : Statement → Statements → Statements

abbrev pub statements : List Statement → Statements
statements [] = none
statements (s ∷ ss) = more s (statements ss)

abbrev pub statement_step : Stmt-F Statement → Statement
statement_step (Stmt-F.Skip p) = skip p
statement_step (Stmt-F.Set p d e) = set p d (expression_of e)
statement_step (Stmt-F.SetElem p a i e) = set_element p a (expression_of i) (expression_of e)
statement_step (Stmt-F.Call p d f es) = call p d f (map expression_of es)
statement_step (Stmt-F.CallBy p d x es) = call_by p d x (map expression_of es)
statement_step (Stmt-F.If p e a b) = if_else p (expression_of e) (statements a) (statements b)
statement_step (Stmt-F.While p e a) = while_loop p (expression_of e) (statements a)
statement_step (Stmt-F.Break p) = break_loop p
statement_step (Stmt-F.Return p e) = return_with p (option_map expression_of e)
statement_step (Stmt-F.Assert p e) = assert_that p (expression_of e)
statement_step (Stmt-F.Input p d) = input p d
statement_step (Stmt-F.Output p e) = output p (expression_of e)
statement_step (Stmt-F.Point p k) = point p k
statement_step (Stmt-F.Choice p d k) = choice p d k
statement_step (Stmt-F.Force p) = force p
statement_step (Stmt-F.Pick p a b) = pick p a b

abbrev pub statement_of : Stmt → Statement
statement_of = fold-Stmt Statement statement_step

-- the way back
abbrev mutual
  pub stmt_of : Statement → Stmt
  stmt_of (skip p) = stmt.Skip p
  stmt_of (set p d e) = stmt.Set p d (expr_of e)
  stmt_of (set_element p a i e) = stmt.SetElem p a (expr_of i) (expr_of e)
  stmt_of (call p d f es) = stmt.Call p d f (map expr_of es)
  stmt_of (call_by p d x es) = stmt.CallBy p d x (map expr_of es)
  stmt_of (if_else p e a b) = stmt.If p (expr_of e) (stmts_of a) (stmts_of b)
  stmt_of (while_loop p e a) = stmt.While p (expr_of e) (stmts_of a)
  stmt_of (break_loop p) = stmt.Break p
  stmt_of (return_with p e) = stmt.Return p (option_map expr_of e)
  stmt_of (assert_that p e) = stmt.Assert p (expr_of e)
  stmt_of (input p d) = stmt.Input p d
  stmt_of (output p e) = stmt.Output p (expr_of e)
  stmt_of (point p k) = stmt.Point p k
  stmt_of (choice p d k) = stmt.Choice p d k
  stmt_of (force p) = stmt.Force p
  stmt_of (pick p a b) = stmt.Pick p (stmt_of a) (stmt_of b)

  pub stmts_of : Statements → List Stmt
  stmts_of none = []
  stmts_of (more s ss) = stmt_of s ∷ stmts_of ss
