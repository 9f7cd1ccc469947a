-- How a run stands.
use Rattle.std.specs.Prelude.{◌≡◌, ℤ, List, [], ◌∷◌, ◌++◌}
use Rattle.plain_run.specs.Moves.{Move, Goes, Asks, Rests}
use Rattle.plain_run.specs.Steps.{Config, Live, Over}
use Rattle.c_lang.specs.declared.event.Event.{Event}
use Rattle.c_lang.specs.declared.event.Event.TheVariants as event
use Rattle.c_lang.specs.declared.event.Trap.{Trap}
use Rattle.c_lang.specs.declared.unit.Pos.{Pos}
use Rattle.run_replay.specs.declared.replay.Close.{Close}
use Rattle.run_replay.specs.declared.replay.Close.TheVariants.{Ended, Faulted, Waiting, Running}

-- the last event is e
abbrev pub EndsWith : List Event → Event → Type 0
EndsWith shown e = (front : List Event) × (shown ≡ front ++ e ∷ [])

-- how a run stands that is over
abbrev pub IsEnd : List Event → Close → Type 0
IsEnd shown Ended = (z : ℤ) × EndsWith shown (event.End z)
IsEnd shown Faulted = (t : Trap) × ((p : Pos) × EndsWith shown (event.Fault t p))
IsEnd shown close = ⊥

-- how a run stands before this move, with the answers that are left and the events so far
abbrev pub IsClose : {C : Type 0} → Move C → List ℤ → List Event → Close → Type 0
IsClose Rests a shown close = IsEnd shown close
IsClose (Asks s next) [] shown Waiting = Unit {0}
IsClose (Asks s next) (v ∷ a) shown Running = Unit {0}
IsClose (Goes s next) a shown Running = Unit {0}
IsClose move a shown close = ⊥

abbrev pub IsLast : Event → Type 0
IsLast (event.End z) = Unit {0}
IsLast (event.Fault t p) = Unit {0}
IsLast e = ⊥

-- where the run is over, an end or a fault is the last event
abbrev pub ShowsItsEnd : {F G O : Type 0} → Config F G O → List Event → Type 0
ShowsItsEnd Over shown = (e : Event) × (EndsWith shown e × IsLast e)
ShowsItsEnd (Live g f fs) shown = Unit {0}
