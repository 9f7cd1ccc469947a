use Rattle.std.proofs.Common.{◌≡◌, map, filter, take}
use Rattle.expression_conditions.specs.Code.Sets.{has}
use Rattle.expression_conditions.proofs.values.listed.Given as goal

abbrev pub invariant-loop-func : goal.invariant-loop-func
invariant-loop-func l = map (λ f. f.now) l.all.items ≡ filter (λ d. has l.set d.name) (take l.func-index l.funcs)
