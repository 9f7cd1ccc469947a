use Rattle.std.proofs.Common.{◌<◌, arith, subst, take_all}
use Rattle.std.specs.List.{All}
use Rattle.linear_certs.proofs.CountLaws.{past-next}
use Rattle.linear_certs.proofs.point.count_with.Goals as goal

pub loop-part-preserved : goal.loop-part-preserved
loop-part-preserved c =
    let inv = c.loop-part.invariant in record {
      up = grind (arith, c.max-most.ensures);
      past = past-next c.args.parts.now c.loop-part.part-index c.loop-part.most c.max-most.result c.loop-part-test.true (grind (arith, c.max-most.ensures)) (grind (arith, c.max-most.ensures)) inv.past;
    }

pub returns-clause-past : goal.returns-clause-past
returns-clause-past c = subst (All (λ part. part.0 < c.loop-part.most)) (take_all c.loop-part.part-index c.args.parts.now c.loop-part-test.false) c.loop-part.invariant.past
