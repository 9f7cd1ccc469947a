use Rattle.std.proofs.Common.{◌≡◌, ◌≤◌, ◌-◌, ◌+◌, length, drop, ◌++◌, true}
use Rattle.linear_rows.specs.Sums.{sums, all_fit}
use Rattle.linear_rows.proofs.sum.merge.Given as goal

abbrev pub invariant-loop-i : goal.invariant-loop-i
invariant-loop-i l = (l.i ≤ length l.left) × (l.j ≤ length l.right) × (sums l.times l.left l.right ≡ l.parts.items ++ sums l.times (drop l.i l.left) (drop l.j l.right)) × (all_fit l.parts.items ≡ true)

abbrev pub decreases-loop-i : goal.decreases-loop-i
decreases-loop-i l = (length l.left - l.i) + (length l.right - l.j)
