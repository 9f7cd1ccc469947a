use Rattle.std.proofs.Common.{◌≤◌, ◌+◌, max, length}
use Rattle.c_expressions.specs.Code.ParseSteps.{separated}
use Rattle.c_expressions.specs.Code.SideReading as spec
use Rattle.c_expressions.specs.Code.Seen.{seen_args}
use Rattle.c_expressions.proofs.SeparatedTurns.{IsLeft}
use Rattle.c_expressions.proofs.right.arguments.Given as goal

abbrev pub invariant-loop-next : goal.invariant-loop-next
invariant-loop-next l = record {
  total : IsLeft (spec.argument l.below) (seen_args l.args) l.rest (separated (spec.argument l.below) (length l.tokens + 1) spec.no_args l.tokens);
  height : l.args.height ≤ max 1 l.below;
  shorter : length l.rest ≤ length l.tokens;
}

abbrev pub decreases-loop-next : goal.decreases-loop-next
decreases-loop-next l = length l.rest
