use Rattle.std.proofs.Common.{◌∙◌}
use Rattle.terms.proofs.KeptLaws.{quotient_unfit}
use Rattle.terms.proofs.evaluate.quotient.Goals as goal

pub returns-in_err-checked_div : goal.returns-in_err-checked_div
returns-in_err-checked_div c =
    c.from_residual.ensures ∙ quotient_unfit c.args.left c.args.right c.ranges.left c.ranges.right c.if-right-eq0.false c.in_err-checked_div.ensures
