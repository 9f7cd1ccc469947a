use Rattle.std.proofs.Common.{◌≡◌, map, take}
use Rattle.annotated_bodies.specs.Code.Given.{seen_fresh}
use Rattle.annotated_bodies.proofs.place.symbols.Given as goal

abbrev pub invariant-loop-name : goal.invariant-loop-name
invariant-loop-name l = l.all.items ≡ map seen_fresh (take l.name-index l.names)
