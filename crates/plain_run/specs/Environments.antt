-- What a machine of this language is beside its configuration.
use Rattle.std.specs.Prelude.{◌≡◌, ℤ, not, Bool, true, false, if◌then◌else◌, List, [], ◌∷◌, Option, Some, None}
use Rattle.std.specs.Borrow.{Bor}
use Rattle.c_lang.specs.Names.{Bytes}
use Rattle.c_lang.specs.Programs.{no_func}
use Rattle.c_lang.specs.Values.{is_zero}
use Rattle.plain_run.specs.Moves.{Move, Goes, Asks}
use Rattle.plain_run.specs.Steps.{Access, Special, Frame, Config, Live, Does, frame_of, with, values_of, entered, before_rest, elements_with}
use Rattle.c_lang.specs.declared.event.Event.TheVariants as event
use Rattle.c_lang.specs.declared.program.Func.{Func}
use Rattle.c_lang.specs.declared.stmt.Dest.TheVariants.{Nowhere}
use Rattle.c_lang.specs.declared.stmt.Stmt.{Stmt, out-Stmt}
use Rattle.plain_run.specs.declared.environment.Callee.{Callee}
use Rattle.plain_run.specs.declared.environment.Callee.TheVariants.{Known, Named}
use Rattle.plain_run.specs.declared.environment.Decision.{Decision}
use Rattle.plain_run.specs.declared.environment.Decision.TheVariants as decision
use Rattle.plain_run.specs.declared.environment.Definition.{Definition}

-- what functions and origins of the code stand for
pub record Sees (X Y F O : Type 0) : Type 0 where
  pub function : X → F
  pub origin : Y → O

-- F, G and O are as in `Steps`
pub record Rules (F G O : Type 0) : Type 0 where
  pub access : Access F G O
  -- what is done at a point, a force or a pick
  pub special : Special access
  -- what an update makes of the state, and the code that it runs
  pub update : G → G
  pub transformer : O × Func

abbrev pub func_or_none : Option (Bor Func) → Func
func_or_none None = no_func
func_or_none (Some f) = f.now

abbrev pub seen_definition : {Y O : Type 0} → (Y → O) → Definition Y → O × Func
seen_definition see d = (see d.origin, func_or_none d.func)

-- `code` says what a name stands for
abbrev pub seen_callee : {X F : Type 0} → (X → F) → (Bytes → F) → Callee X → F
seen_callee see code (Known f) = see f
seen_callee see code (Named n) = code n.now

-- within the bounds, the array has the element then; else nothing changes
abbrev pub SetsElement : {F G O : Type 0} → Access F G O → O → G → Bytes → ℤ → ℤ → Bool → G → Type 0
SetsElement N o g a at z true g' = (elements : List ℤ) × (elements_with (N.elements o g a) at z ≡ Some elements) × (g' ≡ N.put_elements o a elements g)
SetsElement N o g a at z false g' = (elements_with (N.elements o g a) at z ≡ None) × (g' ≡ g)

module _ {F G O : Type 0} (R : Rules F G O) where
  -- the transformer's frame is put on top
  abbrev pub swapped : G → Frame F O → List (Frame F O) → Config F G O
  swapped g f fs = Live (R.update g) (frame_of R.access R.transformer [] Nowhere) (f ∷ fs)

  -- the move of a decision; f doesn't have the statement any more
  abbrev pub decided : Decision → G → Frame F O → List (Frame F O) → Move (Config F G O)
  decided decision.Skip g f fs = Goes [] (Live g f fs)
  decided (decision.Ask k) g f fs = Asks (λ z. event.Choice k (not (is_zero z))) (λ z. if is_zero z then Live g f fs else swapped g f fs)
  decided decision.Update g f fs = Goes [] (swapped g f fs)
  decided (decision.Call h es d p) g f fs =
      with R.access (values_of R.access g f es.now) p (λ vs. entered R.access g f fs (R.access.code f.origin g h.now) vs d.now)
  decided (decision.Next s) g f fs = Goes [] (before_rest R.access g f fs (Does s.now ∷ []))

  -- in each frame of this origin
  abbrev pub Decides : O → G → Stmt → Decision → Type 0
  Decides o g s d = (f : Frame F O) (fs : List (Frame F O)) → f.origin ≡ o → R.special g f fs (out-Stmt s) ≡ decided d g f fs
