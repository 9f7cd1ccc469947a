use Rattle.std.proofs.Common.{◌∙◌, ◌+ℤ◌}
use Rattle.terms.proofs.KeptLaws.{unfit}
use Rattle.terms.proofs.evaluate.sum.Goals as goal

pub returns-in_err-checked_add : goal.returns-in_err-checked_add
returns-in_err-checked_add c =
    c.from_residual.ensures ∙ unfit (λ a b. a +ℤ b) c.args.left c.args.right c.ranges.left c.ranges.right c.in_err-checked_add.ensures
