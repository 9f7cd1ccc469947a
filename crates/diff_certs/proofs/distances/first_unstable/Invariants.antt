use Rattle.std.proofs.Common.{ℕ, ◌≤◌, ◌<◌, ◌-◌, length}
use Rattle.diff_certs.specs.Code.Distances.{IsStable}
use Rattle.diff_certs.proofs.distances.first_unstable.Given as goal

abbrev pub invariant-loop-number : goal.invariant-loop-number
invariant-loop-number l = (l.number ≤ length l.rows) × ((k : ℕ) → k < l.number → IsStable l.rows l.nodes k)

abbrev pub decreases-loop-number : goal.decreases-loop-number
decreases-loop-number l = length l.rows - l.number
