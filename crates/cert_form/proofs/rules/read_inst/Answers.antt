use Rattle.std.proofs.Common.{◌∙◌, Option, sym, subst}
use Rattle.serde_json.specs.View.{view, items_view}
use Rattle.terms.specs.Trees.{TermTree}
use Rattle.cert_form.specs.Certificates.{term, IsPart}
use Rattle.cert_form.specs.Code.Reading.{Found}
use Rattle.cert_form.proofs.RuleLaws.{no-two, some-two}
use Rattle.cert_form.proofs.rules.read_inst.Goals as goal

pub returns-in-Some-2 : goal.returns-in-Some-2
returns-in-Some-2 c =
    some-two (items_view c.args.args.now) (view c.in-Some.fact.now) (view c.in-Some.term.now) c.in-Some-read_whole.fact c.in-Some-2.term
    (sym c.in-Some.ensures) (sym c.read_whole.ensures ∙ c.in-Some-read_whole.is)
    (subst (λ (o : Option TermTree). Found (λ t. IsPart (term t) (view c.in-Some.term.now)) o) c.in-Some-2.is c.in_ok-term.ensures)

pub returns-in-None : goal.returns-in-None
returns-in-None c =
    no-two (items_view c.args.args.now) (view c.in-Some.fact.now) (view c.in-Some.term.now) c.in-Some-read_whole.fact
    (sym c.in-Some.ensures) (sym c.read_whole.ensures ∙ c.in-Some-read_whole.is)
    (subst (λ (o : Option TermTree). Found (λ t. IsPart (term t) (view c.in-Some.term.now)) o) c.in-None.is c.in_ok-term.ensures)
