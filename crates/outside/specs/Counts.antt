-- Counts of calls and of faults, kept in 64 bits.
use Rattle.std.specs.Prelude.{ℕ, ◌+◌, ◌-◌, ◌^◌, ◌≤◌, min}

-- One more, unless the count stands at its last value.
abbrev pub next : ℕ → ℕ
next count = min (count + 1) (2 ^ 64 - 1)

-- The count rose, or it stands at its last value.
abbrev pub Rose : ℕ → ℕ → Type 0
Rose before now = next before ≤ now
