use Rattle.std.proofs.Common.{◌+◌, ◌*◌, max}
use Rattle.c_lang.proofs.expr.Expr.TheLaws.{the_size}
use Rattle.client_specs.proofs.spelled_expressions.+spelled.Given as goal

abbrev pub decreases-spelled : goal.decreases-spelled
decreases-spelled l = 3 * goal.size-spelled l

abbrev pub decreases-boxed : goal.decreases-boxed
decreases-boxed l = 3 * goal.size-boxed l + 1

abbrev pub decreases-element : goal.decreases-element
decreases-element l = 3 * goal.size-element l + 2

abbrev pub decreases-binary : goal.decreases-binary
decreases-binary l = 3 * max (the_size l.left.now) (the_size l.right.now) + 2
