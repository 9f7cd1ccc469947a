use Rattle.std.proofs.Common.{◌≤◌, ◌<◌, take}
use Rattle.std.specs.List.{All}
use Rattle.linear_certs.proofs.point.count_with.Given as goal

abbrev pub invariant-loop-part : goal.invariant-loop-part
invariant-loop-part l = record {
  up : l.count ≤ l.most;
  past : All (λ part. part.0 < l.most) (take l.part-index l.parts);
}
