use Rattle.std.proofs.Common.{◌≤◌, ◌-◌, length, drop}
use Rattle.linear_rows.specs.Sums.{From}
use Rattle.linear_rows.proofs.row.ascend.Given as goal

abbrev pub invariant-loop-at : goal.invariant-loop-at
invariant-loop-at l = (l.at ≤ length l.parts) × (From l.low (drop l.at l.parts) → From 0 l.parts) × (From 0 l.parts → From l.low (drop l.at l.parts))

abbrev pub decreases-loop-at : goal.decreases-loop-at
decreases-loop-at l = length l.parts - l.at
