use Rattle.std.proofs.Common.{◌≡◌, ◌∙◌, ◌∷◌, ◌++◌, reverse, ap, sym}
use Rattle.cert_checker.specs.declared.part.Part.TheVariants as part
use Rattle.cert_checker.specs.Code.Parts.{opened_array, leaf_of_array, opened_form, leaf_of_form}
use Rattle.cert_checker.specs.Code.Truths.{put_after}
use Rattle.cert_checker.proofs.TruthLaws.{array_put, form_put, same_after}
use Rattle.cert_checker.proofs.truth.put_part.Goals as goal

pub returns-in_ok-take_array-in-Array-clause-made : goal.returns-in_ok-take_array-in-Array-clause-made
returns-in_ok-take_array-in-Array-clause-made c =
    same_after c.args.by.now (opened_array c.in-Array.array ++ reverse c.args.parts.now.items) (reverse c.take_array.new.parts.items) c.args.left
    (c.args.out.now.items ++ leaf_of_array c.in-Array.array) c.take_array.new.out.items
    (put_after c.args.by.now (c.args.next ∷ reverse c.args.parts.now.items) c.args.left c.args.out.now.items)
    c.in_ok-take_array-in-Array.ensures.parts c.in_ok-take_array-in-Array.ensures.leaf
    (array_put c.args.by.now c.in-Array.array (reverse c.args.parts.now.items) c.args.left c.args.out.now.items
    ∙ ap (λ p. put_after c.args.by.now (p ∷ reverse c.args.parts.now.items) c.args.left c.args.out.now.items) (sym c.in-Array.is))

pub returns-in_ok-take_form-in-Form-clause-made : goal.returns-in_ok-take_form-in-Form-clause-made
returns-in_ok-take_form-in-Form-clause-made c =
    same_after c.args.by.now (opened_form c.in-Form.form ++ reverse c.args.parts.now.items) (reverse c.take_form.new.parts.items) c.args.left
    (c.args.out.now.items ++ leaf_of_form c.in-Form.form) c.take_form.new.out.items
    (put_after c.args.by.now (c.args.next ∷ reverse c.args.parts.now.items) c.args.left c.args.out.now.items)
    c.in_ok-take_form-in-Form.ensures.parts c.in_ok-take_form-in-Form.ensures.leaf
    (form_put c.args.by.now c.in-Form.form (reverse c.args.parts.now.items) c.args.left c.args.out.now.items
    ∙ ap (λ p. put_after c.args.by.now (p ∷ reverse c.args.parts.now.items) c.args.left c.args.out.now.items) (sym c.in-Form.is))
