use Rattle.std.proofs.Common.{rules, ◌≡◌, ◌∙◌, ℕ, ◌*ℤ◌, inr, ap, sym, subst, length, of_z, to_z, FitsSigned}
use Rattle.std.specs.Prelude.{slice_set}
use Rattle.std.specs.Int.{w128}
use Rattle.std.proofs.lemmas.Int.{to_z-of_z}
use Rattle.linear_certs.specs.Answers.{coordinate}
use Rattle.linear_certs.specs.Code.Limits.{IsMoved}
use Rattle.linear_certs.proofs.CountLaws.{written-back, moved-is}
use Rattle.linear_certs.proofs.SizeLaws.{unfit-product, read-size}
use Rattle.linear_certs.proofs.point.moved.Goals as goal

pub returns-in_err-den-clause-past : goal.returns-in_err-den-clause-past
returns-in_err-den-clause-past c = λ _ m d n nums den_small limit_small.
    let den_fits : FitsSigned w128 c.args.numbers.den = search rules in
    let limit_fits : FitsSigned w128 c.args.limit.den = search rules in
    inr (unfit-product (to_z w128 (of_z w128 c.args.numbers.den)) (to_z w128 (of_z w128 c.args.limit.den)) d m c.in_err-den.ensures
    (read-size c.args.numbers.den d den_fits den_small) (read-size c.args.limit.den m limit_fits limit_small))

pub returns-clause-value : goal.returns-clause-value
returns-clause-value c =
    let old = c.args.numbers.nums.items in
    let made = c.multiply.new.nums in
    let over_fits : FitsSigned w128 c.args.numbers.den = search rules in
    let den_fits : FitsSigned w128 c.args.limit.den = search rules in
    let num_fits : FitsSigned w128 c.args.limit.num = search rules in
    let new_fits : FitsSigned w128 c.in_ok-den.den = search rules in
    let den_is = to_z-of_z w128 c.args.limit.den den_fits in
    let new_is : to_z w128 (of_z w128 c.in_ok-den.den) ≡ c.args.numbers.den *ℤ c.args.limit.den
    = to_z-of_z w128 c.in_ok-den.den new_fits ∙ c.in_ok-den.ensures.1 ∙ ap (λ z. z *ℤ to_z w128 (of_z w128 c.args.limit.den)) (to_z-of_z w128 c.args.numbers.den over_fits) ∙ ap (λ z. c.args.numbers.den *ℤ z) den_is in
    let same : length made ≡ length old = c.in_ok-multiply.ensures.count ∙ ap length c.deref_mut.ensures.value in
    let law : (a : ℕ) → coordinate made a ≡ coordinate old a *ℤ to_z w128 (of_z w128 c.args.limit.den) = λ a. c.in_ok-multiply.ensures.value a ∙ ap (λ l. coordinate l a *ℤ to_z w128 (of_z w128 c.args.limit.den)) c.deref_mut.ensures.value in
    subst (λ l. IsMoved c.args.atom c.args.limit (coordinate old) c.args.numbers.den (coordinate (slice_set l c.args.atom (to_z w128 (of_z w128 c.args.limit.num)))) (to_z w128 (of_z w128 c.in_ok-den.den)))
    (sym (written-back c.args.numbers.nums.len made old c.args.numbers.nums.ok.0 same))
    (moved-is old made c.args.atom c.args.limit c.args.numbers.den (to_z w128 (of_z w128 c.in_ok-den.den)) (to_z w128 (of_z w128 c.args.limit.num)) (to_z w128 (of_z w128 c.args.limit.den)) c.requires.within same law
    (to_z-of_z w128 c.args.limit.num num_fits) den_is new_is)
