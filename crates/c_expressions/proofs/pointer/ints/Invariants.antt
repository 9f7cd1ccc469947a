use Rattle.std.proofs.Common.{◌≤◌, ◌+◌, length}
use Rattle.c_expressions.specs.Code.ParseSteps.{separated}
use Rattle.c_expressions.specs.Code.SideReading as spec
use Rattle.c_expressions.proofs.SeparatedTurns.{IsLeft}
use Rattle.c_expressions.proofs.pointer.ints.Given as goal

abbrev pub invariant-loop-next : goal.invariant-loop-next
invariant-loop-next l = record {
  total : IsLeft spec.count_int l.count l.rest (separated spec.count_int (length l.tokens + 1) 0 l.tokens);
  count : l.count ≤ 33;
  shorter : length l.rest ≤ length l.tokens;
}

abbrev pub decreases-loop-next : goal.decreases-loop-next
decreases-loop-next l = length l.rest
