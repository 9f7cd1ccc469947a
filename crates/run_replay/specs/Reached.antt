-- How far a run comes.
use Rattle.std.specs.Prelude.{ℕ, zero, suc, ℤ, List, [], ◌∷◌}
use Rattle.plain_run.specs.Moves.{Move, Goes, Asks, Rests}

-- the configuration and the answers that are left after a move; as before where it waits or is over
abbrev pub after_move : {C : Type 0} → Move C → C → List ℤ → C × List ℤ
after_move (Goes shown next) c a = (next, a)
after_move (Asks shown next) c [] = (c, [])
after_move (Asks shown next) c (v ∷ a) = (next v, a)
after_move Rests c a = (c, a)

-- the same after n steps
abbrev pub reached : {C : Type 0} → (C → Move C) → ℕ → C → List ℤ → C × List ℤ
reached step zero c a = (c, a)
reached step (suc n) c a = let next = after_move (step c) c a in reached step n next.0 next.1
