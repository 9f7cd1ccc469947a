use Rattle.std.proofs.Common.{◌≡◌, ◌≤◌, ◌-◌, length, drop, ◌++◌, true}
use Rattle.std.specs.List.{list_all}
use Rattle.linear_rows.specs.Numbers.{fits}
use Rattle.linear_certs.specs.Stages.{mixed_multipliers}
use Rattle.linear_certs.proofs.mix.mixed_list.Given as goal

abbrev pub invariant-loop-at : goal.invariant-loop-at
invariant-loop-at l = (l.at ≤ length l.left) × (mixed_multipliers l.a l.left l.b l.right ≡ l.sums.items ++ mixed_multipliers l.a (drop l.at l.left) l.b (drop l.at l.right)) × (list_all fits l.sums.items ≡ true)

abbrev pub decreases-loop-at : goal.decreases-loop-at
decreases-loop-at l = length l.left - l.at
