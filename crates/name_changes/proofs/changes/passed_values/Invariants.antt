use Rattle.std.proofs.Common.{◌≡◌, ◌≤◌, ◌+◌, ◌-◌, ◌++◌, length, drop}
use Rattle.weakest_preconditions.specs.Changing.{entry_values}
use Rattle.name_changes.proofs.changes.passed_values.Given as goal

-- the pairs so far and those to come
abbrev pub invariant-loop-done : goal.invariant-loop-done
invariant-loop-done l = record {
  within : l.done ≤ length l.args;
  made : l.pairs.items ++ entry_values (l.done + 1) (drop l.done l.args) ≡ entry_values 1 l.args;
}

abbrev pub decreases-loop-done : goal.decreases-loop-done
decreases-loop-done l = length l.args - l.done
