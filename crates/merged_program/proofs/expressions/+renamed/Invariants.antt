use Rattle.std.proofs.Common.{◌+◌, ◌*◌, max}
use Rattle.c_lang.proofs.expr.Expr.TheLaws.{the_size}
use Rattle.merged_program.proofs.expressions.+renamed.Given as goal

abbrev pub decreases-renamed : goal.decreases-renamed
decreases-renamed l = 3 * goal.size-renamed l

abbrev pub decreases-boxed : goal.decreases-boxed
decreases-boxed l = 3 * goal.size-boxed l + 1

abbrev pub decreases-element : goal.decreases-element
decreases-element l = 3 * goal.size-element l + 2

abbrev pub decreases-binary : goal.decreases-binary
decreases-binary l = 3 * max (the_size l.left.now) (the_size l.right.now) + 2
