use Rattle.std.proofs.Common.{arith, ap, ◌∙◌}
use Rattle.diff_certs.proofs.WalkLaws.{place-next, place-none}
use Rattle.diff_certs.specs.Rows.{node}
use Rattle.diff_certs.proofs.walk.position_of_side.Goals as goal

pub loop-at-preserved : goal.loop-at-preserved
loop-at-preserved c =
    let is = c.node.ensures ∙ ap (λ r. node r.right) c.row.ensures in
    (omega arith, place-next c.args.rows.now c.args.side c.args.walk.now c.loop-at.at c.loop-at-test.true c.loop-at.invariant.1 (grind (arith, is, c.if-node-side.false)))

pub returns : goal.returns
returns c = place-none c.args.rows.now c.args.side c.args.walk.now c.loop-at.at c.loop-at-test.false c.loop-at.invariant.1
