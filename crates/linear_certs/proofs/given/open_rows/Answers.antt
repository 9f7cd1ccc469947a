use Rattle.linear_certs.proofs.OpeningLaws.{opened-step}
use Rattle.linear_certs.proofs.given.open_rows.Goals as goal

pub loop-number-preserved : goal.loop-number-preserved
loop-number-preserved c = (
  opened-step c.args.rows.now c.loop-number.kept.items c.open_row.new.kept.items c.loop-number.number c.index-rows-number.result c.loop-number-test.true c.index-rows-number.is c.loop-number.invariant.0 c.in-Ok.ensures.ok,
  c.in-Ok.ensures.good,
)
