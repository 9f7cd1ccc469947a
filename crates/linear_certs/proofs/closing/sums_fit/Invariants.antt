use Rattle.std.proofs.Common.{◌≡◌, ◌≤◌, ◌-◌, length, drop, true}
use Rattle.linear_rows.specs.Sums.{row_fits}
use Rattle.linear_rows.specs.Combinations.{nothing, all_sums_fit}
use Rattle.linear_certs.proofs.closing.sums_fit.Given as goal

abbrev pub invariant-loop-at : goal.invariant-loop-at
invariant-loop-at l = (l.at ≤ length l.rows) × (row_fits l.sum ≡ true) × (all_sums_fit nothing l.rows l.multipliers ≡ all_sums_fit l.sum (drop l.at l.rows) (drop l.at l.multipliers))

abbrev pub decreases-loop-at : goal.decreases-loop-at
decreases-loop-at l = length l.rows - l.at
