use Rattle.std.proofs.Common.{◌≤◌, ◌<◌, ◌+◌, ◌-◌, ◌*◌, length}
use Rattle.c_expressions.specs.Code.ExpressionReading as spec
use Rattle.c_expressions.specs.Code.Seen.{seen}
use Rattle.c_expressions.proofs.ExpressionTurns.{IsLeft}
use Rattle.c_expressions.proofs.expressions.+expression.Given as goal

abbrev pub decreases-expression : goal.decreases-expression
decreases-expression l = 2 * l.deep + 1

abbrev pub decreases-operand : goal.decreases-operand
decreases-operand l = 2 * l.below + 2

abbrev pub invariant-expression-loop-op : goal.invariant-expression-loop-op
invariant-expression-loop-op l = record {
  deep : 1 ≤ l.deep;
  low : 1 ≤ l.left.height;
  high : l.left.height ≤ l.deep;
  shorter : length l.left.rest.now < length l.tokens;
  total : IsLeft (spec.expr (l.deep - 1)) l.deep l.least (seen l.left) (spec.expr l.deep l.least l.tokens);
}

abbrev pub decreases-expression-loop-op : goal.decreases-expression-loop-op
decreases-expression-loop-op l = l.deep - l.left.height
