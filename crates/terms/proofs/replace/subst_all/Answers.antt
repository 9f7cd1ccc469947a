use Rattle.std.proofs.Common.{◌≡◌, ap, ◌∙◌}
use Rattle.std.proofs.lemmas.Result.{IfOk-weaker}
use Rattle.terms.specs.Truth.{Interpretation, form_at}
use Rattle.terms.specs.Replacing.{change_in, replaced_form, changed}
use Rattle.terms.proofs.ReplacingLaws.{form_at-replaced}
use Rattle.terms.proofs.replace.subst_all.Goals as goal

pub returns-clause-truth : goal.returns-clause-truth
returns-clause-truth c = IfOk-weaker c.replaced_in_form.result
    (λ made. made ≡ replaced_form (change_in c.args.by.now) c.args.form.now)
    (λ made. (v : Interpretation) → form_at v made ≡ form_at (changed (change_in c.args.by.now) v) c.args.form.now)
    (λ made e v. ap (form_at v) e ∙ form_at-replaced (change_in c.args.by.now) v c.args.form.now)
    c.replaced_in_form.ensures
