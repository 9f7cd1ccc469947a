use Rattle.std.proofs.Common.{◌≡◌, ◌≤◌, ◌-◌, take, length, false}
use Rattle.std.specs.Prelude.{nat_eq}
use Rattle.std.specs.List.{list_any}
use Rattle.diff_certs.specs.Code.Walks.{rights}
use Rattle.diff_certs.proofs.walk.position_of_side.Given as goal

abbrev pub invariant-loop-at : goal.invariant-loop-at
invariant-loop-at l = (l.at ≤ length l.walk) × (list_any (nat_eq l.side) (rights l.rows (take l.at l.walk)) ≡ false)

abbrev pub decreases-loop-at : goal.decreases-loop-at
decreases-loop-at l = length l.walk - l.at
