use Rattle.std.proofs.Common.{◌≤◌, ◌+◌, length}
use Rattle.c_expressions.specs.Code.ParseSteps.{separated}
use Rattle.c_parser.specs.Code.UnitReading as spec
use Rattle.c_expressions.proofs.SeparatedTurns.{IsLeft}
use Rattle.c_parser.proofs.params.several.Given as goal

abbrev pub invariant-loop-params : goal.invariant-loop-params
invariant-loop-params l = record {
  total : IsLeft (spec.param l.pos) l.params l.rest (separated (spec.param l.pos) (length l.tokens + 1) spec.no_params l.tokens);
  shorter : length l.rest ≤ length l.tokens;
}

abbrev pub decreases-loop-params : goal.decreases-loop-params
decreases-loop-params l = length l.rest
