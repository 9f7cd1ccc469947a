use Rattle.std.proofs.Common.{◌≡◌, ◌==◌, map, filter, length, take}
use Rattle.annotated_bodies.proofs.context.with_arity.Given as goal

abbrev pub invariant-loop-func : goal.invariant-loop-func
invariant-loop-func l = map (λ f. f.now) l.all.items ≡ filter (λ d. length d.params == l.arity) (map (λ f. f.now) (take l.func-index l.funcs))
