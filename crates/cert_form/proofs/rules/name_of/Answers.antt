use Rattle.std.proofs.Common.{◌∙◌, List, ℕ, Some, ap, sym}
use Rattle.serde_json.specs.View.{view}
use Rattle.terms.specs.declared.sym.Sym.{Sym}
use Rattle.formula_texts.specs.Texts.{IsNameText}
use Rattle.cert_form.proofs.Deciding.{on-ok}
use Rattle.cert_form.proofs.TextLaws.{found-text}
use Rattle.cert_form.proofs.rules.name_of.Goals as goal

pub returns-in-Some : goal.returns-in-Some
returns-in-Some c =
    let is = sym c.in-Some.ensures ∙ ap (λ (t : List ℕ). Some t) (sym c.as_bytes.ensures.value) in
    on-ok _ _ _ (λ o h. found-text {X = Sym} (λ t x. IsNameText t x) (view c.args.value.now) c.as_bytes.result.now o is h) c.read_name.ensures
