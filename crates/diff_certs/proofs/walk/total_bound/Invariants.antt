use Rattle.std.proofs.Common.{◌≡◌, ◌≤◌, ◌-◌, ◌*◌, ◌^◌, take, length, pos, neg_ℤ, ◌≤ℤ◌}
use Rattle.diff_certs.specs.Rows.{total}
use Rattle.diff_certs.proofs.walk.total_bound.Given as goal

abbrev pub invariant-loop-at : goal.invariant-loop-at
invariant-loop-at l = (l.at ≤ length l.walk) × (l.sum ≡ total l.rows (take l.at l.walk)) × (neg_ℤ (pos (2 ^ 40 * l.at)) ≤ℤ l.sum) × (l.sum ≤ℤ pos (2 ^ 40 * l.at))

abbrev pub decreases-loop-at : goal.decreases-loop-at
decreases-loop-at l = length l.walk - l.at
