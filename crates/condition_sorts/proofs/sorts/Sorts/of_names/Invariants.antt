use Rattle.std.proofs.Common.{◌≡◌, map, take}
use Rattle.weakest_preconditions.specs.Sorts.{sort_of}
use Rattle.condition_sorts.proofs.sorts.Sorts.of_names.Given as goal

abbrev pub invariant-loop-name : goal.invariant-loop-name
invariant-loop-name l = l.pairs.items ≡ map (λ x. (x, sort_of l.self.0 l.self.1 x.base)) (take l.name-index l.names)
