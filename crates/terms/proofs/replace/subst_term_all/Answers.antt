use Rattle.std.proofs.Common.{◌≡◌, ap, ◌∙◌}
use Rattle.std.proofs.lemmas.Result.{IfOk-weaker}
use Rattle.terms.specs.Truth.{Interpretation, term_at}
use Rattle.terms.specs.Replacing.{change_in, replaced_term, changed}
use Rattle.terms.proofs.ReplacingLaws.{term_at-replaced}
use Rattle.terms.proofs.replace.subst_term_all.Goals as goal

pub returns-clause-worth : goal.returns-clause-worth
returns-clause-worth c = IfOk-weaker c.replaced_in_term.result
    (λ made. made ≡ replaced_term (change_in c.args.by.now) c.args.term.now)
    (λ made. (v : Interpretation) → term_at v made ≡ term_at (changed (change_in c.args.by.now) v) c.args.term.now)
    (λ made e v. ap (term_at v) e ∙ term_at-replaced (change_in c.args.by.now) v c.args.term.now)
    c.replaced_in_term.ensures
