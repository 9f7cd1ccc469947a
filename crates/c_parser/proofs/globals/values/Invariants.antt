use Rattle.std.proofs.Common.{[], ◌≤◌, ◌+◌, length}
use Rattle.c_expressions.specs.Code.ParseSteps.{separated}
use Rattle.c_parser.specs.Code.UnitReading as spec
use Rattle.c_expressions.proofs.SeparatedTurns.{IsLeft}
use Rattle.c_parser.proofs.globals.values.Given as goal

abbrev pub invariant-loop-all : goal.invariant-loop-all
invariant-loop-all l = record {
  total : IsLeft spec.value l.all l.rest (separated spec.value (length l.tokens + 1) [] l.tokens);
  shorter : length l.rest ≤ length l.tokens;
}

abbrev pub decreases-loop-all : goal.decreases-loop-all
decreases-loop-all l = length l.rest
