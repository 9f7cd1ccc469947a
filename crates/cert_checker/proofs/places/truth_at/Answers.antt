use Rattle.std.proofs.Common.{◌≡◌, ◌∙◌, Some, slice_get, ap, sym}
use Rattle.std.specs.Option.{option_map}
use Rattle.cert_checker.specs.Places.{truths_in}
use Rattle.cert_checker.specs.Code.Truths.{put_form}
use Rattle.cert_checker.proofs.PlaceFindLaws.{truth-split}
use Rattle.cert_checker.proofs.places.truth_at.Goals as goal

pub returns : goal.returns
returns c = truth-split c.args.form.now c.args.place c.in_ok-copy.field-0 c.in_ok-with_one.with_one c.in_ok-with_zero.with_zero
    (c.in_ok-with_one.ensures ∙ ap (λ t. (put_form t c.args.form.now (Some c.args.place)).0) c.in_ok-one.ensures)
    (c.in_ok-with_zero.ensures ∙ ap (λ t. (put_form t c.args.form.now (Some c.args.place)).0) c.in_ok-zero.ensures)
    (ap Some c.in_ok-copy.ensures ∙ sym c.in-Some.is ∙ c.in_ok-inside.ensures ∙ ap (λ f. option_map (λ p. p.0) (slice_get (truths_in f) c.args.place)) c.as_ref.ensures)
