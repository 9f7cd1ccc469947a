use Rattle.std.proofs.Common.{◌≡◌, ◌∙◌, ◌∷◌, slice_get, reverse, ap, sym}
use Rattle.cert_checker.specs.Code.Finding.{wanted_left}
use Rattle.cert_checker.proofs.FindLaws.{array_passed, form_passed, operator_passed}
use Rattle.cert_checker.proofs.find.seek.Goals as goal

pub returns-in_ok-open_array-in-Array-clause-sought : goal.returns-in_ok-open_array-in-Array-clause-sought
returns-in_ok-open_array-in-Array-clause-sought c = ap (λ ts. slice_get ts c.args.left)
    (array_passed c.args.wanted c.in-Array.array (reverse c.args.parts.now.items) (reverse c.open_array.new.parts.items) c.in_ok-open_array-in-Array.ensures
    ∙ ap (λ p. wanted_left c.args.wanted (p ∷ reverse c.args.parts.now.items)) (sym c.in-Array.is))

pub returns-in_ok-open_form-in-Form-clause-sought : goal.returns-in_ok-open_form-in-Form-clause-sought
returns-in_ok-open_form-in-Form-clause-sought c = ap (λ ts. slice_get ts c.args.left)
    (form_passed c.args.wanted c.in-Form.form (reverse c.args.parts.now.items) (reverse c.open_form.new.parts.items) c.in_ok-open_form-in-Form.ensures
    ∙ ap (λ p. wanted_left c.args.wanted (p ∷ reverse c.args.parts.now.items)) (sym c.in-Form.is))

pub returns-in-Operator-clause-sought : goal.returns-in-Operator-clause-sought
returns-in-Operator-clause-sought c = ap (λ ts. slice_get ts c.args.left)
    (operator_passed c.args.wanted c.args.next c.in-Operator._kind (reverse c.args.parts.now.items) c.in-Operator.is)
