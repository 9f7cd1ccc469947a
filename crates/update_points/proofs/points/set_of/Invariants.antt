use Rattle.std.proofs.Common.{◌≡◌, [], drop}
use Rattle.update_points.specs.Points as spec
use Rattle.update_points.proofs.points.set_of.Given as goal

abbrev pub invariant-loop-k : goal.invariant-loop-k
invariant-loop-k l = spec.all_added l.set (drop l.k-index l.listed) ≡ spec.all_added [] l.listed
