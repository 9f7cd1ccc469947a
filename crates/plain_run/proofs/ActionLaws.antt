-- Doing what a statement asks for is the statement's step.
use Rattle.std.proofs.Common.{◌≡◌, Bool, true, false, if◌then◌else◌, List, [], ◌∷◌, ◌++◌, map, Some, None, Ok, Err, refl, sym, ap, ◌∙◌}
use Rattle.plain_run.specs.Moves.{Move, Goes}
use Rattle.plain_run.specs.Environments.{Rules}
use Rattle.plain_run.specs.Steps as steps
use Rattle.plain_run.specs.Steps.{Frame, Config, Does, Mark, Live}
use Rattle.c_lang.specs.Values.{Value, Answer, number, is_zero}
use Rattle.c_lang.specs.declared.event.Trap.TheVariants as trap
use Rattle.c_lang.specs.declared.event.Event.TheVariants as event
use Rattle.c_lang.specs.declared.expr.Expr.{Expr}
use Rattle.c_lang.specs.declared.stmt.Stmt.{Stmt}
use Rattle.c_lang.specs.declared.stmt.Stmt.TheOpen.{Stmt-F}
use Rattle.c_lang.specs.declared.stmt.Stmt.TheOpen as one
use Rattle.c_lang.specs.declared.unit.Pos.{Pos}
use Rattle.plain_run.specs.Code.Actions.{Action, Skip, Loop, Store_element, Fault, or_fault, IsAskedAfter, IsAskedWith, IsAsked, done}

module _ {F G O : Type 0} (R : Rules F G O) (g : G) (f : Frame F O) (fs : List (Frame F O)) where
  abbrev step : Action F → Move (Config F G O)
  step = done R g f fs

  or_faults : (a : Answer F) (p : Pos) (go : Value F → Action F) (next : Value F → Move (Config F G O))
      → ((v : Value F) → step (go v) ≡ next v) → step (or_fault a p go) ≡ steps.with R.access a p next
  or_faults (Ok v) p go next same = same v
  or_faults (Err t) p go next same = refl

  either : (b : Bool) (x y : Action F) (m n : Move (Config F G O)) → step x ≡ m → step y ≡ n
      → step (if b then x else y) ≡ (if b then m else n)
  either true x y m n p q = p
  either false x y m n p q = q

  goes_either : (b : Bool) (c d : (Config F G O)) → (if b then Goes [] c else Goes [] d) ≡ Goes [] (if b then c else d)
  goes_either true c d = refl
  goes_either false c d = refl

  abbrev value : Expr → Answer F
  value e = steps.value_of R.access g f e

  module _ (s : Stmt) (action : Action F) (IsDecided : Action F → Type 0) where
    abbrev AskedWith : Stmt-F Stmt → Value F → Type 0
    AskedWith l v = IsAskedWith IsDecided R.access.same (steps.look R.access g f) s l v action

    after : (l : Stmt-F Stmt) (a : Answer F) (p : Pos) (next : Value F → Move (Config F G O)) → ((v : Value F) → AskedWith l v → step action ≡ next v)
        → IsAskedAfter IsDecided R.access.same (steps.look R.access g f) s l a p action → step action ≡ steps.with R.access a p next
    after l (Ok v) p next same is = same v is
    after l (Err t) p next same is = ap step is

    pub done-asked : (l : Stmt-F Stmt) → ((a : Action F) → IsDecided a → R.special g f fs l ≡ step a)
        → IsAsked IsDecided R.access.same (steps.look R.access g f) s l action → step action ≡ steps.act R.access R.special g f fs s l
    done-asked (one.Skip p) decided is = ap step is
    done-asked (one.Set p d e) decided is = after (one.Set p d e) (value e) p (λ v. Goes [] (steps.stored R.access g f fs d v)) (λ v with_v. ap step with_v) is
    done-asked (one.SetElem p a i e) decided is =
        after (one.SetElem p a i e) (value i) p (λ at. steps.with R.access (value e) p (λ v. step (Store_element a (number at) (number v) p)))
        (λ at with_at. ap step with_at ∙ or_faults (value e) p (λ v. Store_element a (number at) (number v) p) (λ v. step (Store_element a (number at) (number v) p)) (λ v. refl)) is
    done-asked (one.Call p d h es) decided is = ap step is
    done-asked (one.CallBy p d x es) decided is = ap step is
    done-asked (one.If p e a b) decided is =
        after (one.If p e a b) (value e) p (λ v. Goes [] (steps.before_rest R.access g f fs (map Does (if is_zero (number v) then b else a)))) (λ v with_v. ap step with_v) is
    done-asked (one.While p e a) decided is =
        after (one.While p e a) (value e) p (λ v. Goes [] (if is_zero (number v) then Live g f fs else steps.before_rest R.access g f fs (map Does a ++ Mark s ∷ [])))
        (λ v with_v. ap step with_v
        ∙ either (is_zero (number v)) Skip (Loop a s) (Goes [] (Live g f fs)) (Goes [] (steps.before_rest R.access g f fs (map Does a ++ Mark s ∷ []))) refl refl
        ∙ goes_either (is_zero (number v)) _ _) is
    done-asked (one.Break p) decided is = ap step is
    done-asked (one.Return p None) decided is = ap step is
    done-asked (one.Return p (Some e)) decided is =
        after (one.Return p (Some e)) (value e) p (λ v. steps.handed R.access g f.dest (steps.given R.access f.gives v) fs) (λ v with_v. ap step with_v) is
    done-asked (one.Assert p e) decided is =
        after (one.Assert p e) (value e) p (λ v. if is_zero (number v) then steps.trapped R.access trap.Assert p else Goes [] (Live g f fs))
        (λ v with_v. ap step with_v ∙ either (is_zero (number v)) (Fault trap.Assert p) Skip (steps.trapped R.access trap.Assert p) (Goes [] (Live g f fs)) refl refl) is
    done-asked (one.Input p d) decided is = ap step is
    done-asked (one.Output p e) decided is =
        after (one.Output p e) (value e) p (λ v. Goes (event.Output (number v) ∷ []) (Live g f fs)) (λ v with_v. ap step with_v) is
    done-asked (one.Point p k) decided is = sym (decided action is)
    done-asked (one.Choice p d k) decided is = ap step is
    done-asked (one.Force p) decided is = sym (decided action is)
    done-asked (one.Pick p a b) decided is = sym (decided action is)
