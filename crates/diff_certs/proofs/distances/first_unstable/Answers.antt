use Rattle.std.proofs.Common.{arith}
use Rattle.diff_certs.specs.Code.Distances.{IsStable}
use Rattle.diff_certs.proofs.DistanceLaws.{below-next}
use Rattle.diff_certs.proofs.distances.first_unstable.Goals as goal

pub loop-number-preserved : goal.loop-number-preserved
loop-number-preserved c =
    (omega arith, below-next (λ k. IsStable c.args.rows.now c.args.nodes.now k) c.loop-number.number c.loop-number.invariant.1 (c.is_stable.ensures.yes (grind (arith, c.if-not-is_stable.false))))
