use Rattle.std.proofs.Common.{Option, sym, subst}
use Rattle.serde_json.specs.View.{view, items_view}
use Rattle.terms.specs.Trees.{FormTree}
use Rattle.cert_form.specs.Certificates.{form, IsPart}
use Rattle.cert_form.specs.Code.Reading.{Found}
use Rattle.cert_form.specs.declared.cert.Rule.TheVariants as rule
use Rattle.cert_form.proofs.RuleLaws.{no-one}
use Rattle.cert_form.proofs.rules.read_cut.Goals as goal

pub returns-in-None : goal.returns-in-None
returns-in-None c =
    no-one rule.Cut form (items_view c.args.args.now) (view c.in-Some.form.now) (sym c.in-Some.ensures)
    (subst (λ (o : Option FormTree). Found (λ f. IsPart (form f) (view c.in-Some.form.now)) o) c.in-None.is c.in_ok-form.ensures)
