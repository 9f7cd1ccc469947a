use Rattle.std.proofs.Common.{arith, ap}
use Rattle.std.proofs.lemmas.Int.{ints}
use Rattle.diff_certs.proofs.WalkLaws.{total-next, row-in, inside-at}
use Rattle.diff_certs.proofs.walk.total_bound.Goals as goal

pub loop-at-preserved : goal.loop-at-preserved
loop-at-preserved c =
    let k_in = row-in c.args.rows.now c.args.walk.now c.loop-at.at c.requires.rows_in c.loop-at-test.true in
    let within = inside-at c.args.rows.now _ c.requires.inside k_in in
    let low = within.low in
    let high = within.high in
    let next = total-next c.args.rows.now c.args.walk.now c.loop-at.at c.loop-at-test.true in
    let bound = ap (λ r. r.bound) c.row-sum.ensures in
    let so_far = c.loop-at.invariant in
    (omega arith, omega (arith, ints), omega (arith, ints), omega (arith, ints))
