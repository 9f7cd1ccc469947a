use Rattle.std.proofs.Common.{◌∙◌}
use Rattle.terms.proofs.KeptLaws.{remainder_kept}
use Rattle.terms.proofs.evaluate.remainder.Goals as goal

pub returns-else-right-eq0 : goal.returns-else-right-eq0
returns-else-right-eq0 c =
    c.small-else-right-eq0.ensures
    ∙ remainder_kept c.args.left c.args.right c.wrapping_rem.result c.ranges.left c.ranges.right (record { sfits = c.wrapping_rem.type_inv }) c.if-right-eq0.false
    c.wrapping_rem.ensures
