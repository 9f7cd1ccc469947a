use Rattle.std.proofs.Common.{◌≡◌, ◌++◌, filter, take}
use Rattle.loop_invariants.specs.SetNames.{is_among}
use Rattle.annotated_bodies.specs.Sources.{names_in}
use Rattle.wp_conditions.proofs.steps.put_listed.Given as goal

abbrev pub invariant-loop-cell : goal.invariant-loop-cell
invariant-loop-cell l = l.out.items ≡ l.initial.out.items ++ filter (λ x. is_among x.base (names_in l.listed)) (take l.cell-index l.cells)
