use Rattle.std.proofs.Common.{◌≤◌, ◌<◌, length}
use Rattle.std.specs.List.{All}
use Rattle.linear_certs.specs.Answers.{coordinate}
use Rattle.linear_certs.specs.Points.{IsPartialPoint}
use Rattle.linear_certs.proofs.point.point.Given as goal

abbrev pub invariant-loop-left : goal.invariant-loop-left
invariant-loop-left l = record {
  within : l.left ≤ length l.stages;
  part : IsPartialPoint l.rows l.left (coordinate l.numbers.nums.items) l.numbers.den;
  count : All (λ row. All (λ part. part.0 < length l.numbers.nums.items) row.parts) l.rows;
}

abbrev pub decreases-loop-left : goal.decreases-loop-left
decreases-loop-left l = l.left
