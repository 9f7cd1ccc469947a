use Rattle.std.proofs.Common.{◌≡◌, ◌∙◌, ap, sym}
use Rattle.std.specs.Option.{option_and_then}
use Rattle.cert_checker.specs.Code.Finding.{truth_form}
use Rattle.cert_checker.proofs.PlaceFindLaws.{truth-inside}
use Rattle.cert_checker.proofs.places.truth_inside.Goals as goal

pub returns-in-Some : goal.returns-in-Some
returns-in-Some c = c.truth_form.ensures ∙ sym (ap (option_and_then truth_form) c.in-Some.is) ∙ truth-inside c.args.form c.args.place c.in_ok-term.field-0 c.in_ok-term.ensures

pub returns-in-None : goal.returns-in-None
returns-in-None c = sym (ap (option_and_then truth_form) c.in-None.is) ∙ truth-inside c.args.form c.args.place c.in_ok-term.field-0 c.in_ok-term.ensures
