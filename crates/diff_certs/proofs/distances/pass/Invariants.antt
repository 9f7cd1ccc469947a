use Rattle.std.proofs.Common.{◌≤◌, ◌<◌, ◌-◌, length}
use Rattle.diff_certs.specs.Code.Distances.{AreReached, weight}
use Rattle.diff_certs.proofs.distances.pass.Given as goal

abbrev pub invariant-loop-number : goal.invariant-loop-number
invariant-loop-number l = (l.number ≤ length l.rows) × AreReached l.rows l.nodes × (weight l.nodes < weight l.fn.nodes)

abbrev pub decreases-loop-number : goal.decreases-loop-number
decreases-loop-number l = length l.rows - l.number
