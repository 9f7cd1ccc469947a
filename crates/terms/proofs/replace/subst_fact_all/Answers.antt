use Rattle.std.proofs.Common.{◌≡◌, ◌↔◌, sym, subst}
use Rattle.std.proofs.lemmas.Result.{IfOk-weaker}
use Rattle.terms.specs.declared.fact.Fact.{Fact}
use Rattle.terms.specs.Truth.{Interpretation, FactAt}
use Rattle.terms.specs.Replacing.{change_in, replaced_fact, changed}
use Rattle.terms.proofs.ReplacingLaws.{FactAt-changed}
use Rattle.terms.proofs.replace.subst_fact_all.Goals as goal

pub returns-clause-truth : goal.returns-clause-truth
returns-clause-truth c = IfOk-weaker c.replaced_in_fact.result
    (λ made. made ≡ replaced_fact (change_in c.args.by.now) c.args.fact.now)
    (λ made. (v : Interpretation) → FactAt v made ↔ FactAt (changed (change_in c.args.by.now) v) c.args.fact.now)
    (λ made e v. subst (λ (f : Fact). FactAt v f ↔ FactAt (changed (change_in c.args.by.now) v) c.args.fact.now) (sym e) (FactAt-changed (change_in c.args.by.now) v c.args.fact.now c.requires))
    c.replaced_in_fact.ensures
