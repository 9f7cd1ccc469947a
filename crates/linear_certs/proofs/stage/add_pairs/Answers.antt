use Rattle.linear_certs.specs.Stages.{pairs_of}
use Rattle.linear_certs.proofs.StageLaws.{kept-step, pairs-append, member-pair}
use Rattle.linear_certs.proofs.stage.add_pairs.Goals as goal

pub add_pair-requires-clause-pair : goal.add_pair-requires-clause-pair
add_pair-requires-clause-pair c = member-pair c.args.rows.now c.args.atom c.args.stage.now c.args.upper.now c.lower-item.result c.loop-lower.lower-index c.requires.built c.requires.upper_in c.loop-lower-test.true c.lower-item.is

pub loop-lower-preserved : goal.loop-lower-preserved
loop-lower-preserved c = (
  kept-step (λ l. pairs_of c.args.atom l c.args.upper.now) (pairs-append c.args.atom c.args.upper.now) c.args.next.now.items c.loop-lower.next.items c.add_pair.new.next.items c.args.stage.now
      c.loop-lower.lower-index c.lower-item.result c.loop-lower-test.true c.lower-item.is c.loop-lower.invariant.0 c.in-Ok.ensures.ok,
  c.in-Ok.ensures.good,
)
