use Rattle.std.proofs.Common.{◌≡◌, ◌++◌, map, flat_map, drop}
use Rattle.annotated_bodies.specs.Sources.{context_in, names_in}
use Rattle.annotated_bodies.proofs.context.Context.add_assigns_of.Given as goal

abbrev pub invariant-loop-func : goal.invariant-loop-func
invariant-loop-func l =
    names_in l.out.items ++ flat_map (context_in l.self).assigns (map (λ d. d.name) (map (λ f. f.now) (drop l.func-index l.funcs)))
    ≡ names_in l.fn.out.items ++ flat_map (context_in l.self).assigns (map (λ d. d.name) (map (λ f. f.now) l.funcs))
