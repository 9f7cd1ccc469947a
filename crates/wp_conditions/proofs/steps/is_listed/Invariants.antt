use Rattle.std.proofs.Common.{◌≡◌, drop}
use Rattle.loop_invariants.specs.SetNames.{is_among}
use Rattle.annotated_bodies.specs.Sources.{names_in}
use Rattle.wp_conditions.proofs.steps.is_listed.Given as goal

-- it is among the others exactly where it is among all
abbrev pub invariant-loop-other : goal.invariant-loop-other
invariant-loop-other l = is_among l.name (names_in (drop l.other-index l.listed)) ≡ is_among l.name (names_in l.listed)
