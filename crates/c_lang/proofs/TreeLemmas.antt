-- The plain mirrors of expressions and statements: one level of what is built, and the way back.
use Rattle.std.proofs.Common.{◌≡◌, ℕ, ℤ, List, [], ◌∷◌, map, Option, Some, None, refl, sym, ap, ap₂, ◌∙◌, subst}
use Rattle.std.specs.Option.{option_map}
use Rattle.c_lang.specs.Trees.{Statement, Statements, statements, statement_of, stmt_of, stmts_of, none, more, statement_step, skip, set, set_element, call, call_by, if_else, while_loop, break_loop, return_with, assert_that, input, output, point, choice, force, pick, Expression, literal, variable, element, function, null, negation, logical_not, binary, expression_of, expression_step, expr_of}
use Rattle.c_lang.specs.declared.unit.Pos.{Pos}
use Rattle.c_lang.specs.declared.stmt.Dest.{Dest}
use Rattle.c_lang.specs.declared.stmt.Stmt.{Stmt, roll-Stmt, map-Stmt, fold-roll-Stmt}
use Rattle.c_lang.specs.declared.stmt.Stmt.TheOpen.{Stmt-F}
use Rattle.c_lang.specs.declared.stmt.Stmt.TheOpen as one
use Rattle.c_lang.specs.declared.stmt.Stmt.TheVariants as stmt
use Rattle.c_lang.specs.Names.{Bytes}
use Rattle.c_lang.specs.declared.expr.Op.{Op}
use Rattle.c_lang.specs.declared.expr.Expr.{Expr, roll-Expr, map-Expr, fold-roll-Expr, ind-Expr}
use Rattle.c_lang.specs.declared.expr.Expr.TheOpen.{Expr-F}
use Rattle.c_lang.specs.declared.expr.Expr.TheVariants as expr

at_level : (l : Expr-F Expr) → expression_of (roll-Expr l) ≡ expression_step (map-Expr Expr Expression expression_of l)
at_level l = fold-roll-Expr Expression expression_step l

pub expression_of-Lit : (z : ℤ) → expression_of (expr.Lit z) ≡ literal z
expression_of-Lit z = ap expression_of (sym (expr.rolls-Lit z)) ∙ at_level (Expr-F.Lit z)

pub expression_of-Var : (x : Bytes) → expression_of (expr.Var x) ≡ variable x
expression_of-Var x = ap expression_of (sym (expr.rolls-Var x)) ∙ at_level (Expr-F.Var x)

pub expression_of-Elem : (a : Bytes) (i : Expr) → expression_of (expr.Elem a i) ≡ element a (expression_of i)
expression_of-Elem a i = ap expression_of (sym (expr.rolls-Elem a i)) ∙ at_level (Expr-F.Elem a i)

pub expression_of-FunRef : (f : Bytes) → expression_of (expr.FunRef f) ≡ function f
expression_of-FunRef f = ap expression_of (sym (expr.rolls-FunRef f)) ∙ at_level (Expr-F.FunRef f)

pub expression_of-Null : expression_of expr.Null ≡ null
expression_of-Null = ap expression_of (sym expr.rolls-Null) ∙ at_level Expr-F.Null

pub expression_of-Neg : (e : Expr) → expression_of (expr.Neg e) ≡ negation (expression_of e)
expression_of-Neg e = ap expression_of (sym (expr.rolls-Neg e)) ∙ at_level (Expr-F.Neg e)

pub expression_of-Not : (e : Expr) → expression_of (expr.Not e) ≡ logical_not (expression_of e)
expression_of-Not e = ap expression_of (sym (expr.rolls-Not e)) ∙ at_level (Expr-F.Not e)

pub expression_of-Bin : (o : Op) (a b : Expr) → expression_of (expr.Bin o a b) ≡ binary o (expression_of a) (expression_of b)
expression_of-Bin o a b = ap expression_of (sym (expr.rolls-Bin o a b)) ∙ at_level (Expr-F.Bin o a b)

-- an expression that is built from its mirror has that mirror
pub expression_of-expr_of : (e : Expression) → expression_of (expr_of e) ≡ e
expression_of-expr_of (literal z) = expression_of-Lit z
expression_of-expr_of (variable x) = expression_of-Var x
expression_of-expr_of (element a i) = expression_of-Elem a (expr_of i) ∙ ap (element a) (expression_of-expr_of i)
expression_of-expr_of (function f) = expression_of-FunRef f
expression_of-expr_of null = expression_of-Null
expression_of-expr_of (negation e) = expression_of-Neg (expr_of e) ∙ ap negation (expression_of-expr_of e)
expression_of-expr_of (logical_not e) = expression_of-Not (expr_of e) ∙ ap logical_not (expression_of-expr_of e)
expression_of-expr_of (binary o a b) =
    expression_of-Bin o (expr_of a) (expr_of b) ∙ ap₂ (binary o) (expression_of-expr_of a) (expression_of-expr_of b)

-- an expression is what its mirror builds
abbrev IsBuilt : Expr → Type 0
IsBuilt e = expr_of (expression_of e) ≡ e

built_level : {S : Type 0} (f : S → Expr) (built : (s : S) → IsBuilt (f s)) (l : Expr-F S) → IsBuilt (roll-Expr (map-Expr S Expr f l))
built_level f built (Expr-F.Lit z) = ap expr_of (at_level (Expr-F.Lit z)) ∙ sym (expr.rolls-Lit z)
built_level f built (Expr-F.Var x) = ap expr_of (at_level (Expr-F.Var x)) ∙ sym (expr.rolls-Var x)
built_level f built (Expr-F.Elem a i) =
    ap expr_of (at_level (Expr-F.Elem a (f i))) ∙ ap (expr.Elem a) (built i) ∙ sym (expr.rolls-Elem a (f i))
built_level f built (Expr-F.FunRef g) = ap expr_of (at_level (Expr-F.FunRef g)) ∙ sym (expr.rolls-FunRef g)
built_level f built Expr-F.Null = ap expr_of (at_level Expr-F.Null) ∙ sym expr.rolls-Null
built_level f built (Expr-F.Neg e) =
    ap expr_of (at_level (Expr-F.Neg (f e))) ∙ ap expr.Neg (built e) ∙ sym (expr.rolls-Neg (f e))
built_level f built (Expr-F.Not e) =
    ap expr_of (at_level (Expr-F.Not (f e))) ∙ ap expr.Not (built e) ∙ sym (expr.rolls-Not (f e))
built_level f built (Expr-F.Bin o a b) =
    ap expr_of (at_level (Expr-F.Bin o (f a) (f b))) ∙ ap₂ (expr.Bin o) (built a) (built b) ∙ sym (expr.rolls-Bin o (f a) (f b))

pub expr_of-expression_of : (e : Expr) → expr_of (expression_of e) ≡ e
expr_of-expression_of =
    ind-Expr IsBuilt (λ x y is. subst (λ (l : Expr-F Expr). IsBuilt (roll-Expr l)) is (built_level (λ s. s.0) (λ s. s.1) y))

-- ---- statements

statement_level : (l : Stmt-F Stmt) → statement_of (roll-Stmt l) ≡ statement_step (map-Stmt Stmt Statement statement_of l)
statement_level l = fold-roll-Stmt Statement statement_step l

pub statement_of-Skip : (p : Pos) → statement_of (stmt.Skip p) ≡ skip p
statement_of-Skip p = ap statement_of (sym (stmt.rolls-Skip p)) ∙ statement_level (one.Skip p)

pub statement_of-Set : (p : Pos) (d : Dest) (e : Expr) → statement_of (stmt.Set p d e) ≡ set p d (expression_of e)
statement_of-Set p d e = ap statement_of (sym (stmt.rolls-Set p d e)) ∙ statement_level (one.Set p d e)

pub statement_of-SetElem : (p : Pos) (a : Bytes) (i e : Expr) → statement_of (stmt.SetElem p a i e) ≡ set_element p a (expression_of i) (expression_of e)
statement_of-SetElem p a i e = ap statement_of (sym (stmt.rolls-SetElem p a i e)) ∙ statement_level (one.SetElem p a i e)

pub statement_of-Call : (p : Pos) (d : Dest) (f : Bytes) (es : List Expr) → statement_of (stmt.Call p d f es) ≡ call p d f (map expression_of es)
statement_of-Call p d f es = ap statement_of (sym (stmt.rolls-Call p d f es)) ∙ statement_level (one.Call p d f es)

pub statement_of-CallBy : (p : Pos) (d : Dest) (x : Bytes) (es : List Expr) → statement_of (stmt.CallBy p d x es) ≡ call_by p d x (map expression_of es)
statement_of-CallBy p d x es = ap statement_of (sym (stmt.rolls-CallBy p d x es)) ∙ statement_level (one.CallBy p d x es)

pub statement_of-If : (p : Pos) (e : Expr) (a b : List Stmt) → statement_of (stmt.If p e a b) ≡ if_else p (expression_of e) (statements (map statement_of a)) (statements (map statement_of b))
statement_of-If p e a b = ap statement_of (sym (stmt.rolls-If p e a b)) ∙ statement_level (one.If p e a b)

pub statement_of-While : (p : Pos) (e : Expr) (a : List Stmt) → statement_of (stmt.While p e a) ≡ while_loop p (expression_of e) (statements (map statement_of a))
statement_of-While p e a = ap statement_of (sym (stmt.rolls-While p e a)) ∙ statement_level (one.While p e a)

pub statement_of-Break : (p : Pos) → statement_of (stmt.Break p) ≡ break_loop p
statement_of-Break p = ap statement_of (sym (stmt.rolls-Break p)) ∙ statement_level (one.Break p)

pub statement_of-Return : (p : Pos) (e : Option Expr) → statement_of (stmt.Return p e) ≡ return_with p (option_map expression_of e)
statement_of-Return p e = ap statement_of (sym (stmt.rolls-Return p e)) ∙ statement_level (one.Return p e)

pub statement_of-Assert : (p : Pos) (e : Expr) → statement_of (stmt.Assert p e) ≡ assert_that p (expression_of e)
statement_of-Assert p e = ap statement_of (sym (stmt.rolls-Assert p e)) ∙ statement_level (one.Assert p e)

pub statement_of-Input : (p : Pos) (d : Dest) → statement_of (stmt.Input p d) ≡ input p d
statement_of-Input p d = ap statement_of (sym (stmt.rolls-Input p d)) ∙ statement_level (one.Input p d)

pub statement_of-Output : (p : Pos) (e : Expr) → statement_of (stmt.Output p e) ≡ output p (expression_of e)
statement_of-Output p e = ap statement_of (sym (stmt.rolls-Output p e)) ∙ statement_level (one.Output p e)

pub statement_of-Point : (p : Pos) (k : ℕ) → statement_of (stmt.Point p k) ≡ point p k
statement_of-Point p k = ap statement_of (sym (stmt.rolls-Point p k)) ∙ statement_level (one.Point p k)

pub statement_of-Choice : (p : Pos) (d : Dest) (k : ℕ) → statement_of (stmt.Choice p d k) ≡ choice p d k
statement_of-Choice p d k = ap statement_of (sym (stmt.rolls-Choice p d k)) ∙ statement_level (one.Choice p d k)

pub statement_of-Force : (p : Pos) → statement_of (stmt.Force p) ≡ force p
statement_of-Force p = ap statement_of (sym (stmt.rolls-Force p)) ∙ statement_level (one.Force p)

pub statement_of-Pick : (p : Pos) (a b : Stmt) → statement_of (stmt.Pick p a b) ≡ pick p (statement_of a) (statement_of b)
statement_of-Pick p a b = ap statement_of (sym (stmt.rolls-Pick p a b)) ∙ statement_level (one.Pick p a b)

-- one level of a statement that is built
pub ruleset statement_levels = (statement_of-Skip, statement_of-Set, statement_of-SetElem, statement_of-Call, statement_of-CallBy, statement_of-If, statement_of-While, statement_of-Break, statement_of-Return, statement_of-Assert, statement_of-Input, statement_of-Output, statement_of-Point, statement_of-Choice, statement_of-Force, statement_of-Pick)

-- ---- what is built from a mirror has that mirror

pub exprs_back : (es : List Expression) → map expression_of (map expr_of es) ≡ es
exprs_back [] = refl
exprs_back (e ∷ es) = ap₂ (λ (x : Expression) (xs : List Expression). x ∷ xs) (expression_of-expr_of e) (exprs_back es)

mutual
  -- a statement that is built from its mirror has that mirror
  pub statement_back : (s : Statement) → statement_of (stmt_of s) ≡ s
  statement_back (skip p) = statement_of-Skip p
  statement_back (set p d e) = statement_of-Set p d (expr_of e) ∙ ap (set p d) (expression_of-expr_of e)
  statement_back (set_element p a i e) = statement_of-SetElem p a (expr_of i) (expr_of e) ∙ ap₂ (set_element p a) (expression_of-expr_of i) (expression_of-expr_of e)
  statement_back (call p d f es) = statement_of-Call p d f (map expr_of es) ∙ ap (call p d f) (exprs_back es)
  statement_back (call_by p d x es) = statement_of-CallBy p d x (map expr_of es) ∙ ap (call_by p d x) (exprs_back es)
  statement_back (if_else p e a b) =
      statement_of-If p (expr_of e) (stmts_of a) (stmts_of b)
      ∙ ap₂ (λ (x : Expression) (xs : Statements). if_else p x xs (statements (map statement_of (stmts_of b)))) (expression_of-expr_of e) (statements_back a)
      ∙ ap (if_else p e a) (statements_back b)
  statement_back (while_loop p e a) = statement_of-While p (expr_of e) (stmts_of a) ∙ ap₂ (while_loop p) (expression_of-expr_of e) (statements_back a)
  statement_back (break_loop p) = statement_of-Break p
  statement_back (return_with p None) = statement_of-Return p None
  statement_back (return_with p (Some e)) = statement_of-Return p (Some (expr_of e)) ∙ ap (λ (x : Expression). return_with p (Some x)) (expression_of-expr_of e)
  statement_back (assert_that p e) = statement_of-Assert p (expr_of e) ∙ ap (assert_that p) (expression_of-expr_of e)
  statement_back (input p d) = statement_of-Input p d
  statement_back (output p e) = statement_of-Output p (expr_of e) ∙ ap (output p) (expression_of-expr_of e)
  statement_back (point p k) = statement_of-Point p k
  statement_back (choice p d k) = statement_of-Choice p d k
  statement_back (force p) = statement_of-Force p
  statement_back (pick p a b) = statement_of-Pick p (stmt_of a) (stmt_of b) ∙ ap₂ (pick p) (statement_back a) (statement_back b)

  pub statements_back : (ss : Statements) → statements (map statement_of (stmts_of ss)) ≡ ss
  statements_back none = refl
  statements_back (more s ss) = ap₂ more (statement_back s) (statements_back ss)
