use Rattle.std.proofs.Common.{◌≡◌, ◌↔◌, sym, subst}
use Rattle.std.proofs.lemmas.Result.{IfOk-weaker}
use Rattle.terms.specs.declared.fact.Fact.{Fact}
use Rattle.terms.specs.Truth.{Interpretation, with_value, term_at, FactAt}
use Rattle.terms.specs.Replacing.{number_by, replaced_fact}
use Rattle.terms.proofs.ReplacingLaws.{FactAt-number_by}
use Rattle.terms.proofs.replace.subst_fact.Goals as goal

pub returns-clause-truth : goal.returns-clause-truth
returns-clause-truth c = IfOk-weaker c.replaced_in_fact.result
    (λ made. made ≡ replaced_fact (number_by c.args.name.now c.args.by.now) c.args.fact.now)
    (λ made. (v : Interpretation) → FactAt v made ↔ FactAt (with_value v c.args.name.now (term_at v c.args.by.now)) c.args.fact.now)
    (λ made e v. subst (λ (f : Fact). FactAt v f ↔ FactAt (with_value v c.args.name.now (term_at v c.args.by.now)) c.args.fact.now) (sym e) (FactAt-number_by c.args.name.now c.args.by.now v c.args.fact.now c.requires))
    c.replaced_in_fact.ensures
