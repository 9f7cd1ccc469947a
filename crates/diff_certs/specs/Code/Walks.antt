-- What is known of the walk that is kept for a side.
use Rattle.std.specs.Prelude.{◌≡◌, ◌<◌, ℕ, ◌+◌, ℤ, pos, ◌+ℤ◌, ◌≤ℤ◌, ◌<ℤ◌, List, ◌∷◌, length, get_or, map, Option, None, Some, nat_eq, false, take, drop}
use Rattle.std.specs.List.{All, IsDistinct, list_any}
use Rattle.diff_certs.specs.declared.row.DiffRow.{DiffRow}
use Rattle.diff_certs.specs.declared.walk.Longer.{Longer}
use Rattle.diff_certs.specs.declared.walk.Longer.TheVariants.{Cycle, Walk}
use Rattle.diff_certs.specs.Rows.{IsCycle, row_at, right_at, left_at, Chain, total}

abbrev pub rights : List DiffRow → List ℕ → List ℕ
rights rows walk = map (right_at rows) walk

pub record IsReached (rows : List DiffRow) (node : ℕ) (distance : ℤ) (walk : List ℕ) : Type 0 where
  pub chain : (last : ℕ) × Chain rows node walk last
  pub is : distance ≡ total rows walk
  pub distinct : IsDistinct nat_eq (node ∷ rights rows walk)

-- Where a side is found in a walk.
abbrev pub IsPlace : List DiffRow → List ℕ → ℕ → Option ℕ → Type 0
IsPlace rows walk node None = list_any (nat_eq node) (rights rows walk) ≡ false
IsPlace rows walk node (Some p) = (p < length walk) × (right_at rows (get_or walk p 0) ≡ node)

abbrev pub AreRows : List DiffRow → List ℕ → Type 0
AreRows rows walk = All (λ k. k < length rows) walk

-- A walk cut behind a place: a cycle where the front is negative, and else the rest.
abbrev pub IsCut : List DiffRow → List ℕ → ℕ → Longer → Type 0
IsCut rows longer at (Cycle cycle) = (cycle.items ≡ take (at + 1) longer) × (total rows cycle.items <ℤ pos 0)
IsCut rows longer at (Walk reached) = (reached.walk.items ≡ drop (at + 1) longer) × (reached.distance ≡ total rows reached.walk.items)
    × (pos 0 ≤ℤ total rows (take (at + 1) longer))

-- A walk by one row more: a cycle that refutes, or a walk that is no longer than its parts.
abbrev pub IsLonger : List DiffRow → ℕ → ℤ → Longer → Type 0
IsLonger rows number distance (Cycle cycle) = IsCycle rows cycle.items
IsLonger rows number distance (Walk reached) = IsReached rows (left_at rows number) reached.distance reached.walk.items
    × (reached.distance ≤ℤ (distance +ℤ (row_at rows number).bound))
