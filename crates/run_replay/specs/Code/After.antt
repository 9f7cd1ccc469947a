-- A run after some steps.
use Rattle.std.specs.Prelude.{◌≡◌, ℕ, ℤ, List, [], ◌∷◌, ◌++◌}
use Rattle.c_lang.specs.declared.event.Event.{Event}
use Rattle.plain_run.specs.Moves.{Move, Rests, events_of}
use Rattle.plain_run.specs.Steps.{Config, Live, Over}
use Rattle.plain_run.specs.Runs.{Makes}
use Rattle.plain_run.specs.declared.step.Step.{Step}
use Rattle.plain_run.specs.declared.step.Step.TheVariants.{Quiet, Shown, Waiting, Stopped}
use Rattle.run_replay.specs.Closes.{ShowsItsEnd}
use Rattle.run_replay.specs.Reached.{reached}
use Rattle.run_replay.specs.Replays.{RunStaysShallow}

-- n steps with the answers a were made, which led to c, left the answers b, and showed these events
pub record IsAfter {F G O : Type 0} (next : Config F G O → Move (Config F G O)) (first : Config F G O) (a : List ℤ) (n : ℕ) (c : Config F G O) (b : List ℤ)
    (so_far : List Event) : Type 0 where
  pub reached : reached next n first a ≡ (c, b)
  pub shown : so_far ≡ events_of next n first a
  pub shallow : RunStaysShallow next first a n
  pub last : ShowsItsEnd c so_far

abbrev pub IsLive : {F G O : Type 0} → Config F G O → Type 0
IsLive Over = ⊥
IsLive (Live g f fs) = Unit {0}

-- the events of a step of a machine
abbrev pub shown_of : Step → List Event
shown_of Quiet = []
shown_of (Shown e) = e ∷ []
shown_of Waiting = []
shown_of Stopped = []

-- a step that ends a run shows that
abbrev pub ShowsEnds : {F G O : Type 0} → (Config F G O → Move (Config F G O)) → Type 0
ShowsEnds {F} {G} {O} next =
    (c : Config F G O) (a : List ℤ) (s : Step) (d : Config F G O) (b : List ℤ) (shown : List Event)
    → Makes (next c) c a s d b → ShowsItsEnd c shown → ShowsItsEnd d (shown ++ shown_of s)

-- it rests exactly where it is over
abbrev pub RestsWhenOver : {F G O : Type 0} → (Config F G O → Move (Config F G O)) → Type 0
RestsWhenOver {F} {G} {O} next = (c : Config F G O) → next c ≡ Rests → c ≡ Over
