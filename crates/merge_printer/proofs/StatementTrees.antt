-- A statement is what its mirror builds.
use Rattle.std.specs.Prelude.{◌≡◌, List, [], ◌∷◌, map, Option, Some, None}
use Rattle.std.proofs.Common.{refl, sym, ap, ap₂, subst, ◌∙◌}
use Rattle.std.specs.Option.{option_map}
use Rattle.c_lang.specs.Trees.{Statement, expression_of, expr_of, statement_of, statement_step, statements, stmt_of, stmts_of}
use Rattle.c_lang.specs.declared.expr.Expr.{Expr}
use Rattle.c_lang.specs.declared.stmt.Stmt.{Stmt, roll-Stmt, map-Stmt, fold-roll-Stmt, ind-Stmt}
use Rattle.c_lang.specs.declared.stmt.Stmt.TheOpen.{Stmt-F}
use Rattle.c_lang.specs.declared.stmt.Stmt.TheVariants as stmt
use Rattle.c_lang.proofs.TreeLemmas.{expr_of-expression_of}

abbrev IsBuilt : Stmt → Type 0
IsBuilt s = stmt_of (statement_of s) ≡ s

at_level : (l : Stmt-F Stmt) → statement_of (roll-Stmt l) ≡ statement_step (map-Stmt Stmt Statement statement_of l)
at_level l = fold-roll-Stmt Statement statement_step l

exprs_built : (es : List Expr) → map expr_of (map expression_of es) ≡ es
exprs_built [] = refl
exprs_built (e ∷ es) = ap₂ (λ (x : Expr) (xs : List Expr). x ∷ xs) (expr_of-expression_of e) (exprs_built es)

option_built : (e : Option Expr) → option_map expr_of (option_map expression_of e) ≡ e
option_built None = refl
option_built (Some e) = ap (λ (x : Expr). Some x) (expr_of-expression_of e)

module _ {S : Type 0} (f : S → Stmt) (built : (s : S) → IsBuilt (f s)) where
  list_built : (ss : List S) → stmts_of (statements (map statement_of (map f ss))) ≡ map f ss
  list_built [] = refl
  list_built (s ∷ ss) = ap₂ (λ (x : Stmt) (xs : List Stmt). x ∷ xs) (built s) (list_built ss)

  level_built : (l : Stmt-F S) → IsBuilt (roll-Stmt (map-Stmt S Stmt f l))
  level_built (Stmt-F.Skip p) = ap stmt_of (at_level (Stmt-F.Skip p)) ∙ sym (stmt.rolls-Skip p)
  level_built (Stmt-F.Set p d e) = ap stmt_of (at_level (Stmt-F.Set p d e)) ∙ ap (stmt.Set p d) (expr_of-expression_of e) ∙ sym (stmt.rolls-Set p d e)
  level_built (Stmt-F.SetElem p a i e) =
      ap stmt_of (at_level (Stmt-F.SetElem p a i e)) ∙ ap₂ (stmt.SetElem p a) (expr_of-expression_of i) (expr_of-expression_of e) ∙ sym (stmt.rolls-SetElem p a i e)
  level_built (Stmt-F.Call p d g es) = ap stmt_of (at_level (Stmt-F.Call p d g es)) ∙ ap (stmt.Call p d g) (exprs_built es) ∙ sym (stmt.rolls-Call p d g es)
  level_built (Stmt-F.CallBy p d x es) = ap stmt_of (at_level (Stmt-F.CallBy p d x es)) ∙ ap (stmt.CallBy p d x) (exprs_built es) ∙ sym (stmt.rolls-CallBy p d x es)
  level_built (Stmt-F.If p e a b) =
      ap stmt_of (at_level (Stmt-F.If p e (map f a) (map f b)))
      ∙ ap₂ (λ (x : Expr) (xs : List Stmt). stmt.If p x xs (stmts_of (statements (map statement_of (map f b))))) (expr_of-expression_of e) (list_built a)
      ∙ ap (stmt.If p e (map f a)) (list_built b) ∙ sym (stmt.rolls-If p e (map f a) (map f b))
  level_built (Stmt-F.While p e a) =
      ap stmt_of (at_level (Stmt-F.While p e (map f a))) ∙ ap₂ (stmt.While p) (expr_of-expression_of e) (list_built a) ∙ sym (stmt.rolls-While p e (map f a))
  level_built (Stmt-F.Break p) = ap stmt_of (at_level (Stmt-F.Break p)) ∙ sym (stmt.rolls-Break p)
  level_built (Stmt-F.Return p e) = ap stmt_of (at_level (Stmt-F.Return p e)) ∙ ap (stmt.Return p) (option_built e) ∙ sym (stmt.rolls-Return p e)
  level_built (Stmt-F.Assert p e) = ap stmt_of (at_level (Stmt-F.Assert p e)) ∙ ap (stmt.Assert p) (expr_of-expression_of e) ∙ sym (stmt.rolls-Assert p e)
  level_built (Stmt-F.Input p d) = ap stmt_of (at_level (Stmt-F.Input p d)) ∙ sym (stmt.rolls-Input p d)
  level_built (Stmt-F.Output p e) = ap stmt_of (at_level (Stmt-F.Output p e)) ∙ ap (stmt.Output p) (expr_of-expression_of e) ∙ sym (stmt.rolls-Output p e)
  level_built (Stmt-F.Point p k) = ap stmt_of (at_level (Stmt-F.Point p k)) ∙ sym (stmt.rolls-Point p k)
  level_built (Stmt-F.Choice p d k) = ap stmt_of (at_level (Stmt-F.Choice p d k)) ∙ sym (stmt.rolls-Choice p d k)
  level_built (Stmt-F.Force p) = ap stmt_of (at_level (Stmt-F.Force p)) ∙ sym (stmt.rolls-Force p)
  level_built (Stmt-F.Pick p a b) = ap stmt_of (at_level (Stmt-F.Pick p (f a) (f b))) ∙ ap₂ (stmt.Pick p) (built a) (built b) ∙ sym (stmt.rolls-Pick p (f a) (f b))

pub stmt_built : (s : Stmt) → IsBuilt s
stmt_built = ind-Stmt IsBuilt (λ x y is. subst (λ (l : Stmt-F Stmt). IsBuilt (roll-Stmt l)) is (level_built (λ s. s.0) (λ s. s.1) y))

pub stmts_built : (ss : List Stmt) → stmts_of (statements (map statement_of ss)) ≡ ss
stmts_built [] = refl
stmts_built (s ∷ ss) = ap₂ (λ (x : Stmt) (xs : List Stmt). x ∷ xs) (stmt_built s) (stmts_built ss)
