use Rattle.std.proofs.Common.{◌≡◌, ◌∙◌, ◌≤◌, ◌∷◌, length, ◌+ℤ◌, arith, ap, sym, subst, w64, to_z, of_z}
use Rattle.std.proofs.lemmas.Int.{ints}
use Rattle.std.specs.Prelude.{Some, None}
use Rattle.diff_certs.specs.Rows.{left_at, row_at, node}
use Rattle.diff_certs.specs.Code.Walks.{IsPlace, AreRows}
use Rattle.diff_certs.proofs.WalkLaws.{longer-rows, longer-short, reached-bounds, right-below, inside-at, longer-new, longer-cut, ok-map}
use Rattle.diff_certs.proofs.walk.extend.Goals as goal

pub position_of_side-requires : goal.position_of_side-requires
position_of_side-requires c =
    let is = c.deref-2.ensures.value ∙ c.in_ok-longer.ensures ∙ ap (λ w. c.args.number ∷ w) c.deref.ensures.value in
    subst (AreRows c.args.rows.now) (sym is) (longer-rows c.args.rows.now c.args.number _ _ _ c.requires.number_in c.requires.known)

pub overflow_add-result : goal.overflow_add-result
overflow_add-result c =
    let within = inside-at c.args.rows.now c.args.number c.requires.inside c.requires.number_in in
    let low = within.low in
    let high = within.high in
    let bound = ap (λ r. r.bound) c.row-edge.ensures in
    let bounds = reached-bounds c.args.rows.now _ _ _ c.requires.inside (right-below c.args.rows.now c.requires.inside c.args.number c.requires.number_in) c.requires.known in
    search (arith, ints, bound, bounds, low, high)

pub cut-requires-clause-rows_in : goal.cut-requires-clause-rows_in
cut-requires-clause-rows_in c =
    let is = c.deref-in-Some.ensures.value ∙ c.in_ok-longer.ensures ∙ ap (λ w. c.args.number ∷ w) c.deref.ensures.value in
    subst (AreRows c.args.rows.now) (sym is) (longer-rows c.args.rows.now c.args.number _ _ _ c.requires.number_in c.requires.known)

pub cut-requires-clause-short : goal.cut-requires-clause-short
cut-requires-clause-short c =
    let is = c.deref-in-Some.ensures.value ∙ c.in_ok-longer.ensures ∙ ap (λ w. c.args.number ∷ w) c.deref.ensures.value in
    subst (λ l. length l ≤ 65) (sym is) (longer-short c.args.rows.now c.args.number _ _ c.requires.inside c.requires.number_in c.requires.known)

pub returns-in-None : goal.returns-in-None
returns-in-None c =
    let is = c.in_ok-longer.ensures ∙ ap (λ w. c.args.number ∷ w) c.deref.ensures.value in
    let side : c.node.result ≡ left_at c.args.rows.now c.args.number = c.node.ensures ∙ ap (λ r. node r.left) c.row-edge.ensures in
    let not_there = subst (λ l. IsPlace c.args.rows.now l (left_at c.args.rows.now c.args.number) None) c.deref-2.ensures.value (subst (λ s. IsPlace c.args.rows.now c.deref-2.result.now s None) side c.in-None.ensures) in
    let within = inside-at c.args.rows.now c.args.number c.requires.inside c.requires.number_in in
    let low = within.low in
    let high = within.high in
    let bound = ap (λ r. r.bound) c.row-edge.ensures in
    let bounds = reached-bounds c.args.rows.now _ _ _ c.requires.inside (right-below c.args.rows.now c.requires.inside c.args.number c.requires.number_in) c.requires.known in
    let e_is : to_z w64 (of_z w64 (to_z w64 (of_z w64 c.args.from.now.distance) +ℤ to_z w64 (of_z w64 c.row-edge.result.bound))) ≡ c.args.from.now.distance +ℤ (row_at c.args.rows.now c.args.number).bound
    = omega (arith, ints) in
    longer-new c.args.rows.now c.args.number c.args.from.now.distance _ c.args.from.now.walk.items _ c.requires.number_in c.requires.known is not_there e_is

pub returns-in-Some : goal.returns-in-Some
returns-in-Some c =
    let is = c.deref-in-Some.ensures.value ∙ c.in_ok-longer.ensures ∙ ap (λ w. c.args.number ∷ w) c.deref.ensures.value in
    let side : c.node.result ≡ left_at c.args.rows.now c.args.number = c.node.ensures ∙ ap (λ r. node r.left) c.row-edge.ensures in
    let same : c.deref-2.result.now ≡ c.deref-in-Some.result.now = c.deref-2.ensures.value ∙ sym c.deref-in-Some.ensures.value in
    let there = subst (λ l. IsPlace c.args.rows.now l (left_at c.args.rows.now c.args.number) (Some c.in-Some.at)) same (subst (λ s. IsPlace c.args.rows.now c.deref-2.result.now s (Some c.in-Some.at)) side c.in-Some.ensures) in
    ok-map c.cut.result (λ r cut. longer-cut c.args.rows.now c.args.number c.in-Some.at c.args.from.now.distance c.args.from.now.walk.items c.deref-in-Some.result.now r c.requires.inside c.requires.number_in c.requires.known is there.0 there.1 cut) c.cut.ensures
