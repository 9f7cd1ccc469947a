use Rattle.std.proofs.Common.{◌≡◌, true, false, [], ◌∷◌, take, sym, subst, rules}
use Rattle.terms.specs.declared.fact.Fact.TheVariants as fact
use Rattle.terms.specs.Replacing.{replaced_form}
use Rattle.symbolic_state.specs.Code.Room.{IsPut}
use Rattle.symbolic_state.specs.Code.Writing.{change_at, finished_forms}
use Rattle.symbolic_state.proofs.RoomLaws.{put_behind, put_fails, forms_next, forms_size}
use Rattle.symbolic_state.proofs.writing.put_forms.Goals as goal

pub returns-then-not-branch : goal.returns-then-not-branch
returns-then-not-branch c =
    let no : c.in_ok-put_form.field-0 ≡ false = search rules in
    put_fails c.args.gathered.now c.loop-form.gathered c.put_form.new.gathered (finished_forms (change_at c.args.state.now c.args.time) (take c.loop-form.form-index c.args.forms.now))
    (fact.Plain (replaced_form (change_at c.args.state.now c.args.time) c.form-item.result) ∷ []) (finished_forms (change_at c.args.state.now c.args.time) c.args.forms.now)
    c.loop-form.invariant
    (subst (IsPut c.loop-form.gathered c.put_form.new.gathered (fact.Plain (replaced_form (change_at c.args.state.now c.args.time) c.form-item.result) ∷ [])) no c.in_ok-put_form.ensures)
    (forms_size (change_at c.args.state.now c.args.time) c.args.forms.now c.loop-form.form-index c.form-item.result c.loop-form-test.true c.form-item.is)

pub loop-form-preserved : goal.loop-form-preserved
loop-form-preserved c =
    let done : c.in_ok-put_form.field-0 ≡ true = search rules in
    subst (λ more. IsPut c.args.gathered.now c.put_form.new.gathered more true)
    (sym (forms_next (change_at c.args.state.now c.args.time) c.args.forms.now c.loop-form.form-index c.form-item.result c.loop-form-test.true c.form-item.is))
    (put_behind c.args.gathered.now c.loop-form.gathered c.put_form.new.gathered (finished_forms (change_at c.args.state.now c.args.time) (take c.loop-form.form-index c.args.forms.now))
    (fact.Plain (replaced_form (change_at c.args.state.now c.args.time) c.form-item.result) ∷ []) true c.loop-form.invariant
    (subst (IsPut c.loop-form.gathered c.put_form.new.gathered (fact.Plain (replaced_form (change_at c.args.state.now c.args.time) c.form-item.result) ∷ [])) done c.in_ok-put_form.ensures))
