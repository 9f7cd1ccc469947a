use Rattle.std.proofs.Common.{◌≡◌, map, take}
use Rattle.annotated_bodies.specs.Code.Given.{seen_fresh, numbered}
use Rattle.annotated_bodies.specs.Places.{count_in}
use Rattle.annotated_bodies.specs.Sources.{names_in}
use Rattle.annotated_bodies.proofs.place.next_names.Given as goal

abbrev pub invariant-loop-base : goal.invariant-loop-base
invariant-loop-base l = map seen_fresh l.all.items ≡ map (numbered (count_in l.counts)) (names_in (take l.base-index l.bases))
