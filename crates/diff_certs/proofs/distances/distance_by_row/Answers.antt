use Rattle.std.proofs.Common.{◌∙◌, arith, ap}
use Rattle.std.proofs.lemmas.Int.{ints}
use Rattle.diff_certs.specs.Rows.{node}
use Rattle.diff_certs.specs.Code.Distances.{distance_at}
use Rattle.diff_certs.proofs.WalkLaws.{right-below, inside-at}
use Rattle.diff_certs.proofs.DistanceLaws.{distance-bounds}
use Rattle.diff_certs.proofs.distances.distance_by_row.Goals as goal

pub overflow_add-result : goal.overflow_add-result
overflow_add-result c =
    let within = inside-at c.args.rows.now c.args.number c.requires.inside c.requires.number_in in
    let low = within.low in
    let high = within.high in
    let bound = ap (λ r. r.bound) c.row-edge.ensures in
    let side = c.node.ensures ∙ ap (λ r. node r.right) c.row-edge.ensures in
    let rest = c.distance-rest.ensures ∙ ap (distance_at c.args.nodes.now) side in
    let bounds = distance-bounds c.args.rows.now c.args.nodes.now _ c.requires.inside c.requires.known (right-below c.args.rows.now c.requires.inside c.args.number c.requires.number_in) in
    search (arith, ints, bound, bounds, rest, low, high)

pub returns : goal.returns
returns c =
    let within = inside-at c.args.rows.now c.args.number c.requires.inside c.requires.number_in in
    let low = within.low in
    let high = within.high in
    let bound = ap (λ r. r.bound) c.row-edge.ensures in
    let side = c.node.ensures ∙ ap (λ r. node r.right) c.row-edge.ensures in
    let rest = c.distance-rest.ensures ∙ ap (distance_at c.args.nodes.now) side in
    let bounds = distance-bounds c.args.rows.now c.args.nodes.now _ c.requires.inside c.requires.known (right-below c.args.rows.now c.requires.inside c.args.number c.requires.number_in) in
    omega (arith, ints)
