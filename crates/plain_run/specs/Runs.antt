-- What a step of the machine is to a move of the definitions.
use Rattle.std.specs.Prelude.{◌≡◌, ℕ, ◌+◌, ◌<◌, ℤ, List, [], ◌∷◌, length, Result, Ok, Err}
use Rattle.c_lang.specs.Limits.{frame_limit}
use Rattle.plain_run.specs.Moves.{Move, Goes, Asks, Rests}
use Rattle.plain_run.specs.Steps.{Config, Live, Over}
use Rattle.plain_run.specs.declared.step.Step.{Step}
use Rattle.plain_run.specs.declared.step.Step.TheVariants.{Quiet, Shown, Waiting, Stopped}
use Rattle.plain_run.specs.declared.step.RunError.{RunError}
use Rattle.plain_run.specs.declared.step.RunError.TheVariants.{NoMemory, Deep}

-- how many frames there are
abbrev pub frame_count : {F G O : Type 0} → Config F G O → ℕ
frame_count Over = 0
frame_count (Live g f fs) = length fs + 1

-- with these answers the move makes one frame too many
abbrev pub IsTooDeep : {F G O : Type 0} → Move (Config F G O) → List ℤ → Type 0
IsTooDeep (Goes shown next) a = frame_limit < frame_count next
IsTooDeep (Asks shown next) [] = ⊥
IsTooDeep (Asks shown next) (v ∷ a) = frame_limit < frame_count (next v)
IsTooDeep Rests a = ⊥

-- a machine in the configuration c, with the answers a, made the move: it shows the step, and then
-- it is in the configuration d, with the answers b
abbrev pub Makes : {C : Type 0} → Move C → C → List ℤ → Step → C → List ℤ → Type 0
Makes (Goes [] next) c a Quiet d b = (d ≡ next) × (b ≡ a)
Makes (Goes (e ∷ []) next) c a (Shown x) d b = (x ≡ e) × (d ≡ next) × (b ≡ a)
Makes (Asks shown next) c [] Waiting d b = (d ≡ c) × (b ≡ [])
Makes (Asks shown next) c (v ∷ a) (Shown x) d b = (x ≡ shown v) × (d ≡ next v) × (b ≡ a)
Makes Rests c a Stopped d b = (d ≡ c) × (b ≡ a)
Makes move c a s d b = ⊥

-- it made the move, or else everything is as before
abbrev pub Makes_or_fails : {F G O : Type 0} → Move (Config F G O) → Config F G O → List ℤ → Result Step RunError → Config F G O → List ℤ → Type 0
Makes_or_fails move c a (Ok s) d b = Makes move c a s d b
Makes_or_fails move c a (Err NoMemory) d b = (d ≡ c) × (b ≡ a)
Makes_or_fails move c a (Err Deep) d b = IsTooDeep move a × (d ≡ c) × (b ≡ a)
