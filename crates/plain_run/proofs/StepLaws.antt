-- A step does what the next item's statement asks for.
use Rattle.std.proofs.Common.{◌≡◌, ℤ, pos, Bool, List, [], ◌∷◌, Some, None, Result, false, refl, sym, ap, ◌∙◌, subst}
use Rattle.plain_run.specs.Environments.{Rules, Sees}
use Rattle.plain_run.specs.Steps as steps
use Rattle.plain_run.specs.Steps.{Item, Does, Mark, Live, Config, step_with}
use Rattle.c_lang.specs.Values.{Num}
use Rattle.c_lang.specs.declared.stmt.Stmt.{Stmt, out-Stmt}
use Rattle.plain_run.specs.declared.step.Step.{Step}
use Rattle.plain_run.specs.declared.step.RunError.{RunError}
use Rattle.plain_run.specs.declared.frame.Frame.{Frame}
use Rattle.plain_run.specs.Code.Actions.{Action, Return, IsAsked, done}
use Rattle.plain_run.specs.Code.Frames.{first_statement, behind_first, seen_with}
use Rattle.plain_run.specs.Code.Scopes.{look_in}
use Rattle.plain_run.specs.Code.SeenActions.{IsDecided}
use Rattle.plain_run.specs.Stacks.{config_if}
use Rattle.plain_run.specs.Runs.{Makes_or_fails}
use Rattle.plain_run.proofs.ActionLaws.{done-asked}

module _ {X Y F G O : Type 0} (see : Sees X Y F O) (R : Rules F G O) (g : G) (fs : List (steps.Frame F O)) (f : Frame X Y) where
  abbrev step : Config F G O → steps.Moves R.access
  step = step_with R.access R.special

  abbrev at_items : List Item → Config F G O
  at_items items = Live g (seen_with see items f) fs

  abbrev behind : List Item → steps.Frame F O
  behind items = seen_with see (behind_first items) f

  abbrev Asked : Stmt → Action F → Type 0
  Asked s action = IsAsked (IsDecided see R g f s) R.access.same (look_in see R g f) s (out-Stmt s) action

  acts : (items rest : List Item) (t s : Stmt) (action : Action F) → rest ≡ behind_first items → t ≡ s → Asked s action
      → steps.act R.access R.special g (seen_with see rest f) fs t (out-Stmt t) ≡ done R g (behind items) fs action
  acts items rest t s action behind_is same asked =
      subst (λ u. steps.act R.access R.special g (seen_with see rest f) fs u (out-Stmt u) ≡ done R g (behind items) fs action) (sym same)
      (subst (λ i. steps.act R.access R.special g (seen_with see i f) fs s (out-Stmt s) ≡ done R g (behind items) fs action) (sym behind_is)
      (sym (done-asked R g (behind items) fs s action (IsDecided see R g f s) (out-Stmt s) (λ a d. d (behind_first items) fs) asked)))

  step-statement : (items : List Item) (s : Stmt) (action : Action F) → Some s ≡ first_statement items → Asked s action
      → step (at_items items) ≡ done R g (behind items) fs action
  step-statement [] s action is asked = cc
  step-statement (Does t ∷ items) s action is asked = let same : t ≡ s = cc in acts (Does t ∷ items) items t s action refl same asked
  step-statement (Mark t ∷ items) s action is asked = let same : t ≡ s = cc in acts (Mark t ∷ items) items t s action refl same asked

  step-end : (items : List Item) → None ≡ first_statement items → step (at_items items) ≡ done R g (behind items) fs (Return (Num (pos 0)))
  step-end [] is = refl
  step-end (Does t ∷ items) is = cc
  step-end (Mark t ∷ items) is = cc

  -- where the items are found as `new`
  module _ (over : Bool) (old new : List Item) (live : over ≡ false) (same : new ≡ old) (a : List ℤ) (result : Result Step RunError) (d : Config F G O) (b : List ℤ) where
    abbrev config : List Item → Config F G O
    config items = config_if over (at_items items)

    step_makes : (action : Action F) → step (at_items new) ≡ done R g (behind new) fs action
        → Makes_or_fails (done R g (behind new) fs action) (config new) a result d b → Makes_or_fails (step (config old)) (config old) a result d b
    step_makes action is made =
        subst (λ items. Makes_or_fails (step (config items)) (config items) a result d b) same
        (subst (λ move. Makes_or_fails move (config new) a result d b) (sym (ap (λ v. step (config_if v (at_items new))) live ∙ is)) made)

    pub makes_statement : (s : Stmt) (action : Action F) → Some s ≡ first_statement new → Asked s action
        → Makes_or_fails (done R g (behind new) fs action) (config new) a result d b → Makes_or_fails (step (config old)) (config old) a result d b
    makes_statement s action first asked = step_makes action (step-statement new s action first asked)

    pub makes_end : None ≡ first_statement new
        → Makes_or_fails (done R g (behind new) fs (Return (Num (pos 0)))) (config new) a result d b → Makes_or_fails (step (config old)) (config old) a result d b
    makes_end first = step_makes (Return (Num (pos 0))) (step-end new first)
