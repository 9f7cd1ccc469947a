-- A walk for each side, and what a pass over the rows does to them.
use Rattle.std.specs.Prelude.{◌≡◌, ◌≤◌, ◌<◌, ℕ, ◌+◌, ◌-◌, ◌^◌, ℤ, pos, negsuc, ◌+ℤ◌, ◌≤ℤ◌, List, [], length, get_or, map, Option, None, Some, Vec}
use Rattle.std.specs.List.{sum_by, All}
use Rattle.std.specs.declared.alloc.Global.{Global}
use Rattle.diff_certs.specs.declared.row.DiffRow.{DiffRow}
use Rattle.diff_certs.specs.declared.walk.Reached.{Reached}
use Rattle.diff_certs.specs.Rows.{row_at, left_at, right_at, IsCycle}
use Rattle.diff_certs.specs.Code.Walks.{IsReached}

pub record AreReached (rows : List DiffRow) (nodes : List Reached) : Type 0 where
  pub count : length nodes ≡ 65
  pub each : (v : ℕ) (d : Reached) → v < 65 → IsReached rows v (get_or nodes v d).distance (get_or nodes v d).walk.items

abbrev pub distance_at : List Reached → ℕ → ℤ
distance_at nodes v = get_or (map (λ r. r.distance) nodes) v (pos 0)

-- The row leaves the distances as they are.
abbrev pub IsStable : List DiffRow → List Reached → ℕ → Type 0
IsStable rows nodes k = distance_at nodes (left_at rows k) ≤ℤ (distance_at nodes (right_at rows k) +ℤ (row_at rows k).bound)

abbrev pub AreStable : List DiffRow → List Reached → Type 0
AreStable rows nodes = (k : ℕ) → k < length rows → IsStable rows nodes k

abbrev pub height : ℤ → ℕ
height (pos n) = 2 ^ 46 + n
height (negsuc n) = 2 ^ 46 - (n + 1)

-- What falls with each change.
abbrev pub weight : List Reached → ℕ
weight nodes = sum_by (λ r. height r.distance) nodes

abbrev pub IsStep : List DiffRow → List Reached → ℕ → List Reached → Option (Vec ℕ Global) → Type 0
IsStep rows old k new (Some cycle) = IsCycle rows cycle.items
IsStep rows old k new None = (weight new ≤ weight old) × ((IsStable rows old k → ⊥) → weight new < weight old)

abbrev pub IsPass : List DiffRow → List Reached → List Reached → Option (Vec ℕ Global) → Type 0
IsPass rows old new (Some cycle) = IsCycle rows cycle.items
IsPass rows old new None = weight new < weight old

abbrev pub IsFirst : List DiffRow → List Reached → Option ℕ → Type 0
IsFirst rows nodes None = AreStable rows nodes
IsFirst rows nodes (Some k) = (k < length rows) × (IsStable rows nodes k → ⊥)

abbrev pub IsEmpty : Reached → Type 0
IsEmpty reached = (reached.distance ≡ pos 0) × (reached.walk.items ≡ [])

abbrev pub IsStart : List Reached → Type 0
IsStart nodes = (length nodes ≡ 65) × All IsEmpty nodes
