use Rattle.std.proofs.Common.{◌∙◌, sym, subst}
use Rattle.std.specs.Prelude.{IfOk}
use Rattle.serde_json.specs.Data.{array, Items}
use Rattle.serde_json.specs.View.{items_view}
use Rattle.cert_form.specs.Certificates.{IsRule}
use Rattle.cert_form.specs.Code.Reading.{Found}
use Rattle.cert_form.proofs.Deciding.{on-ok}
use Rattle.cert_form.proofs.RuleLaws.{first-is, found-word}
use Rattle.cert_form.proofs.rules.read_parts.Goals as goal

pub returns-in-Some-of : goal.returns-in-Some-of
returns-in-Some-of c =
    let first = first-is (items_view c.args.parts.now) (c.in-Some.word.now, items_view c.in-Some.args.now) (sym c.in-Some.ensures) in
    subst (λ (ds : Items). IfOk c.read_by.result (Found (λ r. IsRule r (array ds)))) (sym first)
    (on-ok _ _ _ (λ o h. found-word c.in-Some.word.now (items_view c.in-Some.args.now) c.in-Some-of.word o (sym c.of.ensures ∙ c.in-Some-of.is) h) c.read_by.ensures)
