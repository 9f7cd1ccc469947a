use Rattle.std.proofs.Common.{◌≡◌, ◌≤◌, ◌+◌, ◌-◌, ◌++◌, length, map, drop}
use Rattle.terms.specs.Trees.{name}
use Rattle.expression_conditions.specs.Meanings.{current}
use Rattle.weakest_preconditions.specs.Changing.{entry_values}
use Rattle.name_changes.proofs.changes.own_values.Given as goal

-- the pairs so far and those to come
abbrev pub invariant-loop-done : goal.invariant-loop-done
invariant-loop-done l = record {
  within : l.done ≤ length l.params;
  made : l.pairs.items ++ entry_values (l.done + 1) (map (λ x. name (current x)) (map (λ p. p.1) (drop l.done l.params)))
      ≡ entry_values 1 (map (λ x. name (current x)) (map (λ p. p.1) l.params));
}

abbrev pub decreases-loop-done : goal.decreases-loop-done
decreases-loop-done l = length l.params - l.done
