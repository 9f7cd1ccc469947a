use Rattle.std.proofs.Common.{◌≡◌, ◌∙◌, ◌<◌, arith, ap, sym, subst, get_or, set, ◌<ℤ◌}
use Rattle.std.proofs.lemmas.Int.{ints}
use Rattle.diff_certs.specs.Rows.{node, left_at, right_at}
use Rattle.diff_certs.specs.Code.Distances.{distance_at, weight}
use Rattle.diff_certs.specs.Code.Walks.{IsLonger}
use Rattle.diff_certs.proofs.WalkLaws.{right-below, left-below}
use Rattle.diff_certs.proofs.DistanceLaws.{put-less, distance-is}
use Rattle.diff_certs.proofs.distances.relax.Goals as goal

pub returns-in-Walk-clause-step : goal.returns-in-Walk-clause-step
returns-in-Walk-clause-step c =
    let rows = c.args.rows.now in
    let nodes = c.args.nodes.now in
    let number = c.args.number in
    let known = subst (IsLonger rows number (get_or nodes c.node.result c.index-nodes-node.result).distance) c.in-Walk.is c.in_ok-cycle.ensures in
    let side : c.node-in-Walk.result ≡ left_at rows number = c.node-in-Walk.ensures ∙ ap (λ r. node r.left) c.row-edge.ensures in
    let right : c.node.result ≡ right_at rows number = c.node.ensures ∙ ap (λ r. node r.right) c.row-edge.ensures in
    let right_in = right-below rows c.requires.inside number c.requires.number_in in
    let left_in = left-below rows c.requires.inside number c.requires.number_in in
    let count = c.requires.known.count in
    let far : (get_or nodes c.node.result c.index-nodes-node.result).distance ≡ distance_at nodes (right_at rows number)
    = distance-is nodes c.node.result c.index-nodes-node.result (omega arith) ∙ ap (distance_at nodes) right in
    let above = c.is_stable.ensures.no c.if-is_stable.false in
    let under = known.1 in
    let less : c.in-Walk.reached.distance <ℤ distance_at nodes (left_at rows number) = omega (arith, ints) in
    let new_is : c.set_reached.new.nodes ≡ set nodes (left_at rows number) c.in-Walk.reached = c.set_reached.ensures ∙ ap (λ v. set nodes v c.in-Walk.reached) side in
    let lower = subst (λ n. weight n < weight nodes) (sym new_is) (put-less rows nodes (left_at rows number) c.in-Walk.reached c.requires.inside c.requires.known left_in known.0 less) in
    (omega arith, λ _. lower)
