use Rattle.std.proofs.Common.{◌≡◌, ◌++◌, [], drop}
use Rattle.update_points.specs.Points as spec
use Rattle.update_points.proofs.points.distinct.Given as goal

abbrev pub invariant-loop-point : goal.invariant-loop-point
invariant-loop-point l = record {
  first : spec.first_twice l.seen (drop l.point-index l.points) ≡ spec.first_twice [] l.points;
  all : l.seen ++ spec.numbers (drop l.point-index l.points) ≡ spec.numbers l.points;
}
