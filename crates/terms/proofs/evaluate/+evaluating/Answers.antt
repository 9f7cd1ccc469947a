use Rattle.std.proofs.Common.{rules, FitsSigned, ◌≡◌, Some, ◌∙◌, ap}
use Rattle.std.specs.Int.{w128}
use Rattle.std.proofs.lemmas.Int.{to_z-of_z}
use Rattle.terms.specs.Code.Operations.{written}
use Rattle.terms.proofs.ValueLaws.{stored_value}
use Rattle.terms.proofs.evaluate.+evaluating.Goals as goal

pub element-returns-in_ok-stored-in-Store : goal.element-returns-in_ok-stored-in-Store
element-returns-in_ok-stored-in-Store t c =
    let fits : FitsSigned w128 c.written.result = record { sfits = c.written.type_inv } in
    let fits_before : FitsSigned w128 c.in_ok-before-in-Store.before = search rules in
    let fits_place : FitsSigned w128 c.in_ok-place-in-Store.place = search rules in
    let fits_stored : FitsSigned w128 c.in_ok-stored-in-Store.stored = search rules in
    let is : c.written.result ≡ written c.args.index c.in_ok-before-in-Store.before c.in_ok-place-in-Store.place c.in_ok-stored-in-Store.stored =
    c.written.ensures ∙ (λ i. written (to_z-of_z w128 c.args.index c.ranges.index i) (to_z-of_z w128 c.in_ok-before-in-Store.before fits_before i)
    (to_z-of_z w128 c.in_ok-place-in-Store.place fits_place i) (to_z-of_z w128 c.in_ok-stored-in-Store.stored fits_stored i)) in
    ap Some (to_z-of_z w128 c.written.result fits ∙ is) ∙ stored_value c.args.at.now c.args.array.now c.in-Store.inner c.in-Store.place c.in-Store.stored
    c.args.index c.in_ok-before-in-Store.before c.in_ok-place-in-Store.place c.in_ok-stored-in-Store.stored c.in-Store.ensures
    (search (rules, to_z-of_z)) (search (rules, to_z-of_z)) (search (rules, to_z-of_z))
