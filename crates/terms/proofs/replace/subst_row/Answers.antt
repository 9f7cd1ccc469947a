use Rattle.std.proofs.Common.{◌≡◌, ap, ◌∙◌}
use Rattle.std.proofs.lemmas.Result.{IfOk-weaker}
use Rattle.terms.specs.Truth.{Interpretation, with_array, array_at, form_at}
use Rattle.terms.specs.Replacing.{array_by, replaced_form}
use Rattle.terms.proofs.ReplacingLaws.{form_at-array_by}
use Rattle.terms.proofs.replace.subst_row.Goals as goal

pub returns-clause-truth : goal.returns-clause-truth
returns-clause-truth c = IfOk-weaker c.replaced_in_form.result
    (λ made. made ≡ replaced_form (array_by c.args.name.now c.args.by.now) c.args.form.now)
    (λ made. (v : Interpretation) → form_at v made ≡ form_at (with_array v c.args.name.now (array_at v c.args.by.now)) c.args.form.now)
    (λ made e v. ap (form_at v) e ∙ form_at-array_by c.args.name.now c.args.by.now v c.args.form.now)
    c.replaced_in_form.ensures
