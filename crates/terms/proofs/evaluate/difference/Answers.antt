use Rattle.std.proofs.Common.{◌∙◌, ◌-ℤ◌}
use Rattle.terms.proofs.KeptLaws.{unfit}
use Rattle.terms.proofs.evaluate.difference.Goals as goal

pub returns-in_err-checked_sub : goal.returns-in_err-checked_sub
returns-in_err-checked_sub c =
    c.from_residual.ensures ∙ unfit (λ a b. a -ℤ b) c.args.left c.args.right c.ranges.left c.ranges.right c.in_err-checked_sub.ensures
