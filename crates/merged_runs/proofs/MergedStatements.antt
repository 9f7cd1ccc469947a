-- A merged statement by its outermost level.
use Rattle.std.proofs.Common.{◌≡◌, ℕ, Bool, true, false, map, ◌&&◌, if◌then◌else◌, List, [], ◌∷◌, Some, None, refl, ap, ap₂, ◌∙◌, codes}
use Rattle.c_lang.specs.Names.{Bytes}
use Rattle.c_lang.specs.Trees.{expression_of, expr_of, variable, skip, statements, statement_step, statement_of, Statement, stmt_of, stmts_of}
use Rattle.c_lang.specs.declared.expr.Expr.{Expr}
use Rattle.c_lang.specs.declared.expr.Expr.TheVariants.{Var}
use Rattle.c_lang.specs.declared.stmt.Kind.{Kind}
use Rattle.c_lang.specs.declared.stmt.Kind.TheVariants as kind
use Rattle.c_lang.specs.declared.unit.Pos.{Pos}
use Rattle.c_lang.specs.declared.stmt.Dest.{Dest}
use Rattle.c_lang.specs.declared.stmt.Dest.TheVariants.{Nowhere, Fresh}
use Rattle.c_lang.specs.declared.stmt.Stmt.{Stmt, out-Stmt, map-Stmt, fold_out-Stmt}
use Rattle.c_lang.specs.declared.stmt.Stmt.TheOpen.{Stmt-F}
use Rattle.c_lang.specs.declared.stmt.Stmt.TheOpen as one
use Rattle.c_lang.specs.declared.stmt.Stmt.TheVariants as stmt
use Rattle.std.specs.Option.{option_map}
use Rattle.version_names.specs.Merged.{merged_name}
use Rattle.version_names.specs.Provenance.{Provenance, may_update}
use Rattle.version_names.specs.declared.part.Origin.TheVariants.{Xform}
use Rattle.plain_run.specs.Steps.{Item, Does, Mark}
use Rattle.merged_program.specs.Names.{now_name, result_name}
use Rattle.merged_program.specs.Expressions.{renamed_dest, renamed}
use Rattle.merged_program.specs.Statements as merged
use Rattle.merged_program.specs.Statements.{merged_statement, merged_statements}

-- ---- what the merged program adds

abbrev pub transform_name : Bytes
transform_name = merged_name Xform (codes "dsu_transform")

abbrev pub is_nil : Bytes → Expr
is_nil x = expr_of (merged.is_zero x)

abbrev pub is_set : Bytes → Expr
is_set x = expr_of (merged.is_set x)

abbrev pub swap_body : Pos → List Stmt
swap_body p = stmts_of (merged.swap p)

abbrev pub point_body : Pos → ℕ → List Stmt
point_body p k = stmts_of (merged.question p k)

-- the statement that may stand behind a body
abbrev pub return_zero : Pos → Stmt
return_zero p = stmt_of (merged.return_zero p)

-- a caller's statement that hands its callee's result on
abbrev pub hand_on : Pos → Stmt
hand_on p = stmt.Return p (Some (Var result_name))

abbrev pub call_with : Pos → Dest → Bytes → List (Kind × Bytes) → Stmt
call_with p d f ps = stmt.Call p d f (map (λ x. Var x.1) ps)

-- a wrapper's call of one version's function
abbrev pub hand : Pos → Bool → Bytes → List (Kind × Bytes) → List Stmt
hand p true f ps = call_with p (Fresh kind.Int result_name) f ps ∷ hand_on p ∷ []
hand p false f ps = call_with p Nowhere f ps ∷ []

abbrev pub wrapper_body : Pos → Bool → Bytes → Bytes → List (Kind × Bytes) → List Stmt
wrapper_body p gives new old ps = stmt.If p (is_set now_name) (hand p gives new ps) (hand p gives old ps) ∷ []

variables-built : (ps : List (Kind × Bytes)) → map expr_of (map (λ q. variable q.1) ps) ≡ map (λ q. Var q.1) ps
variables-built [] = refl
variables-built (p ∷ ps) = ap (λ es. Var p.1 ∷ es) (variables-built ps)

hand-built : (p : Pos) (b : Bool) (f : Bytes) (ps : List (Kind × Bytes)) → stmts_of (merged.hand p b f ps) ≡ hand p b f ps
hand-built p true f ps = ap (λ es. stmt.Call p (Fresh kind.Int result_name) f es ∷ hand_on p ∷ []) (variables-built ps)
hand-built p false f ps = ap (λ es. stmt.Call p Nowhere f es ∷ []) (variables-built ps)

pub wrapper-built : (p : Pos) (b : Bool) (new old : Bytes) (ps : List (Kind × Bytes)) → stmt_of (merged.wrapping p b new old ps) ∷ [] ≡ wrapper_body p b new old ps
wrapper-built p b new old ps =
    ap₂ (λ xs ys. stmt.If p (is_set now_name) xs ys ∷ []) (hand-built p b new ps) (hand-built p b old ps)

-- ---- the names of one statement

module _ (ρ κ : Bytes → Bytes) where
  abbrev pub under : Expr → Expr
  under e = expr_of (renamed ρ κ (expression_of e))

  -- its bodies are left as they are
  abbrev pub stmt_under : {A : Type 0} → Stmt-F A → Stmt-F A
  stmt_under (one.Skip p) = one.Skip p
  stmt_under (one.Set p d e) = one.Set p (renamed_dest ρ d) (under e)
  stmt_under (one.SetElem p a i e) = one.SetElem p (ρ a) (under i) (under e)
  stmt_under (one.Call p d f es) = one.Call p (renamed_dest ρ d) (κ f) (map under es)
  stmt_under (one.CallBy p d x es) = one.CallBy p (renamed_dest ρ d) (ρ x) (map under es)
  stmt_under (one.If p e a b) = one.If p (under e) a b
  stmt_under (one.While p e a) = one.While p (under e) a
  stmt_under (one.Break p) = one.Break p
  stmt_under (one.Return p e) = one.Return p (option_map under e)
  stmt_under (one.Assert p e) = one.Assert p (under e)
  stmt_under (one.Input p d) = one.Input p (renamed_dest ρ d)
  stmt_under (one.Output p e) = one.Output p (under e)
  stmt_under (one.Point p k) = one.Point p k
  stmt_under (one.Choice p d k) = one.Choice p (renamed_dest ρ d) k
  stmt_under (one.Force p) = one.Force p
  stmt_under (one.Pick p a b) = one.Pick p a b

  all-under : (es : List Expr) → map expr_of (map (renamed ρ κ) (map expression_of es)) ≡ map under es
  all-under [] = refl
  all-under (e ∷ es) = ap (λ rest. under e ∷ rest) (all-under es)

-- ---- merged statements

module _ (permits : ℕ → Bool) (ρ κ : Provenance → Bytes → Bytes) where
  abbrev pub merged_layer : Provenance → Stmt-F Stmt → Stmt-F Stmt
  merged_layer o (one.Point p k) =
      if may_update o && permits k then one.If p (is_nil now_name) (point_body p k) [] else one.Skip p
  merged_layer o (one.Force p) = one.If p (is_nil now_name) (swap_body p) []
  merged_layer o (one.Pick p a b) = one.If p (is_set now_name) (a ∷ []) (b ∷ [])
  merged_layer o l = stmt_under (ρ o) (κ o) l

  abbrev pub merged_stmt : Provenance → Stmt → Stmt
  merged_stmt o s = stmt_of (merged_statement permits ρ κ o (statement_of s))

  abbrev pub merged_item : Provenance → Item → Item
  merged_item o (Does s) = Does (merged_stmt o s)
  merged_item o (Mark s) = Mark (merged_stmt o s)

  module _ (o : Provenance) where
    pub bodies-merged : (ss : List Stmt) → stmts_of (merged_statements permits ρ κ o (statements (map statement_of ss))) ≡ map (merged_stmt o) ss
    bodies-merged [] = refl
    bodies-merged (s ∷ ss) = ap (λ rest. merged_stmt o s ∷ rest) (bodies-merged ss)

    point_level : (b : Bool) (p : Pos) (k : ℕ)
        → out-Stmt (stmt_of (if b then merged.asking p k else skip p)) ≡ (if b then one.If p (is_nil now_name) (point_body p k) [] else one.Skip p)
    point_level true p k = stmt.outs-If p (is_nil now_name) (point_body p k) []
    point_level false p k = stmt.outs-Skip p

    level : (l : Stmt-F Stmt)
        → out-Stmt (stmt_of (merged_statement permits ρ κ o (statement_step (map-Stmt Stmt Statement statement_of l)))) ≡ merged_layer o (map-Stmt Stmt Stmt (merged_stmt o) l)
    level (one.Skip p) = stmt.outs-Skip p
    level (one.Set p d e) = stmt.outs-Set p (renamed_dest (ρ o) d) (under (ρ o) (κ o) e)
    level (one.SetElem p a i e) = stmt.outs-SetElem p (ρ o a) (under (ρ o) (κ o) i) (under (ρ o) (κ o) e)
    level (one.Call p d f es) =
        stmt.outs-Call p (renamed_dest (ρ o) d) (κ o f) _ ∙ ap (one.Call p (renamed_dest (ρ o) d) (κ o f)) (all-under (ρ o) (κ o) es)
    level (one.CallBy p d x es) =
        stmt.outs-CallBy p (renamed_dest (ρ o) d) (ρ o x) _ ∙ ap (one.CallBy p (renamed_dest (ρ o) d) (ρ o x)) (all-under (ρ o) (κ o) es)
    level (one.If p e a b) =
        stmt.outs-If p (under (ρ o) (κ o) e) _ _ ∙ ap₂ (one.If p (under (ρ o) (κ o) e)) (bodies-merged a) (bodies-merged b)
    level (one.While p e a) = stmt.outs-While p (under (ρ o) (κ o) e) _ ∙ ap (one.While p (under (ρ o) (κ o) e)) (bodies-merged a)
    level (one.Break p) = stmt.outs-Break p
    level (one.Return p None) = stmt.outs-Return p None
    level (one.Return p (Some e)) = stmt.outs-Return p (Some (under (ρ o) (κ o) e))
    level (one.Assert p e) = stmt.outs-Assert p (under (ρ o) (κ o) e)
    level (one.Input p d) = stmt.outs-Input p (renamed_dest (ρ o) d)
    level (one.Output p e) = stmt.outs-Output p (under (ρ o) (κ o) e)
    level (one.Point p k) = point_level (may_update o && permits k) p k
    level (one.Choice p d k) = stmt.outs-Choice p (renamed_dest (ρ o) d) k
    level (one.Force p) = stmt.outs-If p (is_nil now_name) (swap_body p) []
    level (one.Pick p a b) = stmt.outs-If p (is_set now_name) (merged_stmt o a ∷ []) (merged_stmt o b ∷ [])

    pub out_merged : (t : Stmt) → out-Stmt (merged_stmt o t) ≡ merged_layer o (map-Stmt Stmt Stmt (merged_stmt o) (out-Stmt t))
    out_merged t = ap (λ s. out-Stmt (stmt_of (merged_statement permits ρ κ o s))) (fold_out-Stmt Statement statement_step t) ∙ level (out-Stmt t)
