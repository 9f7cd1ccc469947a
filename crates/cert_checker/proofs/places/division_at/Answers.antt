use Rattle.std.proofs.Common.{rules, FitsSigned, ◌≡◌, ◌∙◌, Some, None, filter, filter_map, slice_get, ap, sym}
use Rattle.std.specs.Int.{w128}
use Rattle.std.specs.Option.{option_and_then}
use Rattle.std.proofs.lemmas.Int.{to_z-of_z}
use Rattle.terms.specs.Names.{terms_in_form}
use Rattle.cert_checker.specs.declared.find.Wanted.TheVariants as wanted
use Rattle.cert_checker.specs.Places.{division_of}
use Rattle.cert_checker.specs.Code.Finding.{is_wanted}
use Rattle.cert_checker.proofs.PlaceFindLaws.{kept-found}
use Rattle.cert_checker.proofs.places.division_at.Goals as goal

pub returns-in_default : goal.returns-in_default
returns-in_default c =
    let found = ap (option_and_then division_of) (c.in_ok-term.ensures ∙ ap (λ f. slice_get (filter (is_wanted wanted.Division) (terms_in_form f)) c.args.place) c.as_ref.ensures)
    ∙ kept-found division_of (terms_in_form c.args.form.now) c.args.place in
    sym (ap (option_and_then division_of) c.in_default.is) ∙ found

pub returns-in_default-division_of : goal.returns-in_default-division_of
returns-in_default-division_of c =
    let found = ap (option_and_then division_of) (c.in_ok-term.ensures ∙ ap (λ f. slice_get (filter (is_wanted wanted.Division) (terms_in_form f)) c.args.place) c.as_ref.ensures)
    ∙ kept-found division_of (terms_in_form c.args.form.now) c.args.place in
    sym c.in_default-division_of.is ∙ c.division_of.ensures ∙ sym (ap (option_and_then division_of) c.in-Some.is) ∙ found

pub returns : goal.returns
returns c =
    let found = ap (option_and_then division_of) (c.in_ok-term.ensures ∙ ap (λ f. slice_get (filter (is_wanted wanted.Division) (terms_in_form f)) c.args.place) c.as_ref.ensures)
    ∙ kept-found division_of (terms_in_form c.args.form.now) c.args.place in
    let fits : FitsSigned w128 c.in-Some-division_of.by = search rules in
    (λ i. Some (c.in_ok-copy.ensures i, to_z-of_z w128 c.in-Some-division_of.by fits i))
    ∙ sym c.in-Some-division_of.is ∙ c.division_of.ensures ∙ sym (ap (option_and_then division_of) c.in-Some.is) ∙ found
