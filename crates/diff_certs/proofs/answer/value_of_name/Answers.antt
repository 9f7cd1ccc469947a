use Rattle.std.proofs.Common.{arith}
use Rattle.std.proofs.lemmas.Int.{ints}
use Rattle.diff_certs.proofs.DistanceLaws.{distance-bounds}
use Rattle.diff_certs.proofs.answer.value_of_name.Goals as goal

pub overflow_sub-result : goal.overflow_sub-result
overflow_sub-result c =
    let zero_bounds = distance-bounds c.args.rows.now c.args.nodes.now 64 c.requires.inside c.requires.known (omega arith) in
    let raw_bounds = distance-bounds c.args.rows.now c.args.nodes.now c.args.side c.requires.inside c.requires.known c.requires.side_in in
    let zero_is = c.distance-zero.ensures in
    let raw_is = c.distance-raw.ensures in
    search (arith, ints, zero_bounds, raw_bounds, zero_is, raw_is)

pub returns : goal.returns
returns c =
    let zero_bounds = distance-bounds c.args.rows.now c.args.nodes.now 64 c.requires.inside c.requires.known (omega arith) in
    let raw_bounds = distance-bounds c.args.rows.now c.args.nodes.now c.args.side c.requires.inside c.requires.known c.requires.side_in in
    let zero_is = c.distance-zero.ensures in
    let raw_is = c.distance-raw.ensures in
    omega (arith, ints)
