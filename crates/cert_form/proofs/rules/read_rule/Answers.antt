use Rattle.std.proofs.Common.{◌∙◌, ap, sym, subst, List}
use Rattle.std.specs.Prelude.{IfOk}
use Rattle.serde_json.specs.Data.{Data, array}
use Rattle.serde_json.specs.View.{view, items_view}
use Rattle.serde_json.specs.declared.value.Value.{Value}
use Rattle.cert_form.specs.Certificates.{IsRule}
use Rattle.cert_form.specs.Code.Reading.{Found}
use Rattle.cert_form.proofs.TextLaws.{array-is}
use Rattle.cert_form.proofs.rules.read_rule.Goals as goal

pub returns-in-Some : goal.returns-in-Some
returns-in-Some c =
    let whole = array-is (view c.args.value.now) (items_view c.in-Some.parts.now.items) (sym c.in-Some.ensures) in
    let same = whole ∙ ap (λ (vs : List Value). array (items_view vs)) (sym c.deref.ensures.value) in
    subst (λ (d : Data). IfOk c.read_parts.result (Found (λ r. IsRule r d))) (sym same) c.read_parts.ensures
