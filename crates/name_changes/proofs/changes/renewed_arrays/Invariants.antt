use Rattle.std.proofs.Common.{◌≡◌, ◌++◌, map, drop}
use Rattle.terms.specs.Trees.{array}
use Rattle.expression_conditions.specs.Meanings.{current}
use Rattle.name_changes.proofs.changes.renewed_arrays.Given as goal

-- the pairs so far and those to come
abbrev pub invariant-loop-symbol : goal.invariant-loop-symbol
invariant-loop-symbol l = l.pairs.items ++ map (λ x. (current x.base, array x)) (drop l.symbol-index l.fresh) ≡ map (λ x. (current x.base, array x)) l.fresh
