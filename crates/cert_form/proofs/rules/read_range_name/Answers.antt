use Rattle.std.proofs.Common.{Option, refl, subst}
use Rattle.serde_json.specs.Data.{item, no_items}
use Rattle.serde_json.specs.View.{view}
use Rattle.terms.specs.declared.sym.Sym.{Sym}
use Rattle.cert_form.specs.Certificates.{name, IsPart}
use Rattle.cert_form.specs.Code.Reading.{Found}
use Rattle.cert_form.specs.declared.cert.Rule.TheVariants as rule
use Rattle.cert_form.proofs.RuleLaws.{no-one}
use Rattle.cert_form.proofs.rules.read_range_name.Goals as goal

pub returns-in-None : goal.returns-in-None
returns-in-None c =
    no-one rule.RangeName name (item (view c.args.name.now) no_items) (view c.args.name.now) refl
    (subst (λ (o : Option Sym). Found (λ x. IsPart (name x) (view c.args.name.now)) o) c.in-None.is c.in_ok-name.ensures)
