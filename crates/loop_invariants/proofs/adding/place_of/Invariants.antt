use Rattle.std.proofs.Common.{◌≡◌, ◌+◌, ◌-◌, ◌≤◌, length, drop}
use Rattle.std.specs.List.{position_or_len}
use Rattle.loop_invariants.specs.Adding as spec
use Rattle.loop_invariants.proofs.adding.place_of.Given as goal

abbrev pub invariant-loop-at : goal.invariant-loop-at
invariant-loop-at l = record {
  value : l.at + position_or_len (spec.is_of l.func l.number) (drop l.at l.loops) ≡ position_or_len (spec.is_of l.func l.number) l.loops;
  within : l.at ≤ length l.loops;
}

abbrev pub decreases-loop-at : goal.decreases-loop-at
decreases-loop-at l = length l.loops - l.at
