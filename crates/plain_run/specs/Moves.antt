-- Machines in general: what a configuration does next, and what a run shows.
use Rattle.std.specs.Prelude.{◌≡◌, ℕ, zero, suc, ℤ, List, [], ◌∷◌, ◌++◌}
use Rattle.c_lang.specs.declared.event.Event.{Event}

-- one step from a configuration
pub data Move (C : Type 0) : Type 0 where
  -- shows these events, one or none, and goes on
  Goes : (shown : List Event) → (next : C) → Move C
  -- takes an answer, shows an event, and goes on; without an answer it waits
  Asks : (shown : ℤ → Event) → (next : ℤ → C) → Move C
  -- is over
  Rests : Move C

-- the events of a move and of what `go` gives after it; none where it waits or is over
abbrev pub follow : {C : Type 0} → Move C → List ℤ → (C → List ℤ → List Event) → List Event
follow (Goes shown next) answers go = shown ++ go next answers
follow (Asks shown next) [] go = []
follow (Asks shown next) (v ∷ answers) go = shown v ∷ go (next v) answers
follow Rests answers go = []

-- the events of the first n steps; where the run waits or is over, further steps add nothing
abbrev pub events_of : {C : Type 0} → (C → Move C) → ℕ → C → List ℤ → List Event
events_of step zero c answers = []
events_of step (suc n) c answers = follow (step c) answers (events_of step n)

-- h is a prefix of the events of some number of steps
abbrev pub Shows : {C : Type 0} → (C → Move C) → C → List ℤ → List Event → Type 0
Shows step c answers h = (n : ℕ) × ((rest : List Event) × (events_of step n c answers ≡ h ++ rest))
