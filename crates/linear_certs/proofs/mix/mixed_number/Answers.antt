use Rattle.std.proofs.Common.{rules, ◌≡◌, ◌∙◌, ◌^◌, ◌+ℤ◌, ◌*ℤ◌, pos, refl, ap, sym, subst, FitsSigned}
use Rattle.std.specs.Int.{w128}
use Rattle.std.proofs.lemmas.Int.{to_z-of_z}
use Rattle.linear_rows.specs.Numbers.{fits}
use Rattle.linear_certs.specs.Code.Building.{IsNumber, IsHalved}
use Rattle.linear_certs.proofs.HalfLaws.{bits, whole-is, bits-small, upper-wide, large-wide}
use Rattle.linear_certs.proofs.mix.mixed_number.Goals as goal

pub returns-in_default : goal.returns-in_default
returns-in_default c =
    let whole : c.args.a *ℤ c.args.m +ℤ c.args.b *ℤ c.args.n
    ≡ (bits c.sum_of_products-high.result *ℤ pos (2 ^ 50) +ℤ bits (bits c.sum_of_products-one.result +ℤ bits c.sum_of_products-two.result)) *ℤ pos (2 ^ 50) +ℤ bits c.sum_of_products-low.result
    = whole-is c.args.a c.args.m c.args.b c.args.n c.halved-x.result c.halved-y.result c.halved-v.result c.halved-w.result
    c.sum_of_products-high.result c.sum_of_products-one.result c.sum_of_products-two.result c.sum_of_products-low.result
    (subst (λ z. IsHalved z c.halved-x.result) (to_z-of_z w128 c.args.a c.ranges.a) c.halved-x.ensures) (subst (λ z. IsHalved z c.halved-y.result) (to_z-of_z w128 c.args.m c.ranges.m) c.halved-y.ensures)
    (subst (λ z. IsHalved z c.halved-v.result) (to_z-of_z w128 c.args.b c.ranges.b) c.halved-v.ensures) (subst (λ z. IsHalved z c.halved-w.result) (to_z-of_z w128 c.args.n c.ranges.n) c.halved-w.ensures)
    c.sum_of_products-high.ensures.value c.sum_of_products-one.ensures.value c.sum_of_products-two.ensures.value c.sum_of_products-low.ensures.value
    c.sum_of_products-high.ensures.small c.sum_of_products-one.ensures.small c.sum_of_products-two.ensures.small c.sum_of_products-low.ensures.small in
    ap fits whole ∙ upper-wide (bits c.sum_of_products-high.result *ℤ pos (2 ^ 50) +ℤ bits (bits c.sum_of_products-one.result +ℤ bits c.sum_of_products-two.result)) (bits c.sum_of_products-low.result)
    (c.in_default.ensures.past refl) (bits-small c.sum_of_products-low.result c.sum_of_products-low.ensures.small)

pub returns-in_default-joined : goal.returns-in_default-joined
returns-in_default-joined c =
    let whole : c.args.a *ℤ c.args.m +ℤ c.args.b *ℤ c.args.n
    ≡ (bits c.sum_of_products-high.result *ℤ pos (2 ^ 50) +ℤ bits (bits c.sum_of_products-one.result +ℤ bits c.sum_of_products-two.result)) *ℤ pos (2 ^ 50) +ℤ bits c.sum_of_products-low.result
    = whole-is c.args.a c.args.m c.args.b c.args.n c.halved-x.result c.halved-y.result c.halved-v.result c.halved-w.result
    c.sum_of_products-high.result c.sum_of_products-one.result c.sum_of_products-two.result c.sum_of_products-low.result
    (subst (λ z. IsHalved z c.halved-x.result) (to_z-of_z w128 c.args.a c.ranges.a) c.halved-x.ensures) (subst (λ z. IsHalved z c.halved-y.result) (to_z-of_z w128 c.args.m c.ranges.m) c.halved-y.ensures)
    (subst (λ z. IsHalved z c.halved-v.result) (to_z-of_z w128 c.args.b c.ranges.b) c.halved-v.ensures) (subst (λ z. IsHalved z c.halved-w.result) (to_z-of_z w128 c.args.n c.ranges.n) c.halved-w.ensures)
    c.sum_of_products-high.ensures.value c.sum_of_products-one.ensures.value c.sum_of_products-two.ensures.value c.sum_of_products-low.ensures.value
    c.sum_of_products-high.ensures.small c.sum_of_products-one.ensures.small c.sum_of_products-two.ensures.small c.sum_of_products-low.ensures.small in
    let upper_fits : FitsSigned w128 c.in-Some.upper = search rules in
    let upper_is = to_z-of_z w128 c.in-Some.upper upper_fits ∙ c.in-Some.ensures.value in
    ap fits (whole ∙ ap (λ z. z *ℤ pos (2 ^ 50) +ℤ bits c.sum_of_products-low.result) (sym upper_is))
    ∙ large-wide (bits c.in-Some.upper *ℤ pos (2 ^ 50) +ℤ bits c.sum_of_products-low.result) (c.in_default-joined.ensures.past refl)

pub returns : goal.returns
returns c =
    let whole : c.args.a *ℤ c.args.m +ℤ c.args.b *ℤ c.args.n
    ≡ (bits c.sum_of_products-high.result *ℤ pos (2 ^ 50) +ℤ bits (bits c.sum_of_products-one.result +ℤ bits c.sum_of_products-two.result)) *ℤ pos (2 ^ 50) +ℤ bits c.sum_of_products-low.result
    = whole-is c.args.a c.args.m c.args.b c.args.n c.halved-x.result c.halved-y.result c.halved-v.result c.halved-w.result
    c.sum_of_products-high.result c.sum_of_products-one.result c.sum_of_products-two.result c.sum_of_products-low.result
    (subst (λ z. IsHalved z c.halved-x.result) (to_z-of_z w128 c.args.a c.ranges.a) c.halved-x.ensures) (subst (λ z. IsHalved z c.halved-y.result) (to_z-of_z w128 c.args.m c.ranges.m) c.halved-y.ensures)
    (subst (λ z. IsHalved z c.halved-v.result) (to_z-of_z w128 c.args.b c.ranges.b) c.halved-v.ensures) (subst (λ z. IsHalved z c.halved-w.result) (to_z-of_z w128 c.args.n c.ranges.n) c.halved-w.ensures)
    c.sum_of_products-high.ensures.value c.sum_of_products-one.ensures.value c.sum_of_products-two.ensures.value c.sum_of_products-low.ensures.value
    c.sum_of_products-high.ensures.small c.sum_of_products-one.ensures.small c.sum_of_products-two.ensures.small c.sum_of_products-low.ensures.small in
    let upper_fits : FitsSigned w128 c.in-Some.upper = search rules in
    let upper_is = to_z-of_z w128 c.in-Some.upper upper_fits ∙ c.in-Some.ensures.value in
    let sum_fits : FitsSigned w128 c.in-Some-joined.sum = search rules in
    let sum_is : bits c.in-Some-joined.sum ≡ c.args.a *ℤ c.args.m +ℤ c.args.b *ℤ c.args.n
    = to_z-of_z w128 c.in-Some-joined.sum sum_fits ∙ c.in-Some-joined.ensures.value ∙ sym (whole ∙ ap (λ z. z *ℤ pos (2 ^ 50) +ℤ bits c.sum_of_products-low.result) (sym upper_is)) in
    subst (λ z. IsNumber z c.narrow.result) sum_is c.narrow.ensures
