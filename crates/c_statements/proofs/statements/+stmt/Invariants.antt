use Rattle.std.proofs.Common.{◌≤◌, ◌+◌, ◌*◌, length}
use Rattle.c_statements.specs.Code.StatementReading as spec
use Rattle.c_statements.proofs.StatementTurns.{IsLeft}
use Rattle.c_statements.proofs.statements.+stmt.Given as goal

abbrev pub decreases-stmt : goal.decreases-stmt
decreases-stmt l = 7 * l.deep

abbrev pub decreases-stmt_at : goal.decreases-stmt_at
decreases-stmt_at l = 7 * l.below + 6

abbrev pub decreases-key_stmt : goal.decreases-key_stmt
decreases-key_stmt l = 7 * l.below + 5

abbrev pub decreases-items : goal.decreases-items
decreases-items l = 7 * l.below + 2

abbrev pub decreases-body : goal.decreases-body
decreases-body l = 7 * l.below + 3

abbrev pub decreases-branch : goal.decreases-branch
decreases-branch l = 7 * l.below + 4

abbrev pub decreases-repeat : goal.decreases-repeat
decreases-repeat l = 7 * l.below + 4

abbrev pub invariant-items-loop-behind : goal.invariant-items-loop-behind
invariant-items-loop-behind l = record {
  total : IsLeft (spec.stmt l.unit l.below) l.below l.in_loop (spec.made l.stmts l.height l.scope l.rest) (spec.items (spec.stmt l.unit l.below) l.below (length l.tokens + 1) l.in_loop (spec.nothing l.fn.scope l.tokens));
  high : l.height ≤ l.below;
  shorter : length l.rest ≤ length l.tokens;
  counted : l.scope.count + length l.rest ≤ l.fn.scope.count + length l.tokens;
}

abbrev pub decreases-items-loop-behind : goal.decreases-items-loop-behind
decreases-items-loop-behind l = length l.rest
