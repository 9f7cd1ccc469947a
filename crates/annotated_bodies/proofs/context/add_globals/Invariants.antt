use Rattle.std.proofs.Common.{◌≡◌, ◌++◌, map, drop}
use Rattle.annotated_bodies.specs.Sources.{names_in}
use Rattle.annotated_bodies.proofs.context.add_globals.Given as goal

abbrev pub invariant-loop-global : goal.invariant-loop-global
invariant-loop-global l =
    names_in l.out.items ++ map (λ g. g.name) (drop l.global-index l.globals) ≡ names_in l.fn.out.items ++ map (λ g. g.name) l.globals
