use Rattle.std.proofs.Common.{◌≡◌, ◌∙◌, ◌∷◌, ◌++◌, ◌<◌, reverse, ap, sym, subst}
use Rattle.std.specs.Prelude.{OnOk}
use Rattle.cert_checker.specs.declared.part.Part.TheVariants as part
use Rattle.cert_checker.specs.Code.Parts.{opened_array, opened_form}
use Rattle.cert_checker.specs.Code.Exchanging.{exchanged_after, parts_work}
use Rattle.cert_checker.proofs.ExchangeLaws.{array_left, array_less, form_left, form_less, fewer, on-one, on-both}
use Rattle.cert_checker.proofs.exchanged.exchange_part.Goals as goal

pub returns-in-Array-clause-made : goal.returns-in-Array-clause-made
returns-in-Array-clause-made c =
    subst (λ p. OnOk c.take_array.result (exchanged_after c.args.from.now c.args.to.now (reverse c.take_array.new.parts.items) c.take_array.new.out.items
    ≡ exchanged_after c.args.from.now c.args.to.now (p ∷ reverse c.args.parts.now.items) c.args.out.now.items)) (sym c.in-Array.is)
    (on-both c.take_array.result c.take_array.ensures.parts c.take_array.ensures.leaf
    (array_left c.args.from.now c.args.to.now c.in-Array.array (reverse c.args.parts.now.items) (reverse c.take_array.new.parts.items) c.args.out.now.items c.take_array.new.out.items))

pub returns-in-Form-clause-made : goal.returns-in-Form-clause-made
returns-in-Form-clause-made c =
    subst (λ p. OnOk c.take_form.result (exchanged_after c.args.from.now c.args.to.now (reverse c.take_form.new.parts.items) c.take_form.new.out.items
    ≡ exchanged_after c.args.from.now c.args.to.now (p ∷ reverse c.args.parts.now.items) c.args.out.now.items)) (sym c.in-Form.is)
    (on-both c.take_form.result c.take_form.ensures.parts c.take_form.ensures.leaf
    (form_left c.args.from.now c.args.to.now c.in-Form.form (reverse c.args.parts.now.items) (reverse c.take_form.new.parts.items) c.args.out.now.items c.take_form.new.out.items))

pub returns-in-Array-clause-less : goal.returns-in-Array-clause-less
returns-in-Array-clause-less c =
    subst (λ p. OnOk c.take_array.result (parts_work (reverse c.take_array.new.parts.items) < parts_work (p ∷ reverse c.args.parts.now.items))) (sym c.in-Array.is)
    (on-one c.take_array.result c.take_array.ensures.parts
    (λ e. fewer (parts_work (reverse c.take_array.new.parts.items)) (parts_work (opened_array c.in-Array.array ++ reverse c.args.parts.now.items)) (parts_work (part.Array c.in-Array.array ∷ reverse c.args.parts.now.items))
    (ap parts_work e) (array_less c.in-Array.array (reverse c.args.parts.now.items))))

pub returns-in-Form-clause-less : goal.returns-in-Form-clause-less
returns-in-Form-clause-less c =
    subst (λ p. OnOk c.take_form.result (parts_work (reverse c.take_form.new.parts.items) < parts_work (p ∷ reverse c.args.parts.now.items))) (sym c.in-Form.is)
    (on-one c.take_form.result c.take_form.ensures.parts
    (λ e. fewer (parts_work (reverse c.take_form.new.parts.items)) (parts_work (opened_form c.in-Form.form ++ reverse c.args.parts.now.items)) (parts_work (part.Form c.in-Form.form ∷ reverse c.args.parts.now.items))
    (ap parts_work e) (form_less c.in-Form.form (reverse c.args.parts.now.items))))
