use Rattle.std.proofs.Common.{◌≡◌, ◌++◌, map, drop}
use Rattle.terms.specs.Trees.{name}
use Rattle.expression_conditions.specs.Meanings.{current}
use Rattle.loop_invariants.specs.EntryNames.{result_base}
use Rattle.name_changes.proofs.call_end.results_now.Given as goal

-- the pairs so far and those to come
abbrev pub invariant-loop-symbol : goal.invariant-loop-symbol
invariant-loop-symbol l = l.pairs.items ++ map (λ x. (current result_base, name x)) (drop l.symbol-index l.outcome) ≡ map (λ x. (current result_base, name x)) l.outcome
