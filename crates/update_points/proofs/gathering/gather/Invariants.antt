use Rattle.std.proofs.Common.{◌≡◌, ◌++◌, take}
use Rattle.std.specs.List.{flat_map}
use Rattle.update_points.specs.Points.{points_of_func}
use Rattle.update_points.proofs.gathering.gather.Given as goal

abbrev pub invariant-loop-func : goal.invariant-loop-func
invariant-loop-func l = l.points.items ≡ l.initial.points.items ++ flat_map points_of_func (take l.func-index l.funcs)
