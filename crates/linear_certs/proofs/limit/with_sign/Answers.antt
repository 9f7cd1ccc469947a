use Rattle.std.proofs.Common.{rules, ◌≡◌, ◌∙◌, ap, subst, pos, false, of_z, to_z, FitsSigned, neg_ℤ}
use Rattle.std.specs.Int.{w128}
use Rattle.std.specs.Int.RustNames.{int_lt}
use Rattle.std.proofs.lemmas.Int.{to_z-of_z}
use Rattle.linear_certs.proofs.QuotientLaws.{with-sign, not-above-is}
use Rattle.linear_certs.proofs.limit.with_sign.Goals as goal

pub returns-clause-value : goal.returns-clause-value
returns-clause-value c =
    let num_fits : FitsSigned w128 c.in_ok-num.num = search rules in
    let den_fits : FitsSigned w128 c.in_ok-den.den = search rules in
    let num_is = to_z-of_z w128 c.args.num c.ranges.num in
    let den_is = to_z-of_z w128 c.args.den c.ranges.den in
    with-sign c.args.num c.args.den (to_z w128 (of_z w128 c.in_ok-num.num)) (to_z w128 (of_z w128 c.in_ok-den.den)) (not-above-is c.args.den (subst (λ z. int_lt (pos 0) z ≡ false) den_is c.if-den-gt0.false)) c.requires
    (to_z-of_z w128 c.in_ok-num.num num_fits ∙ c.in_ok-num.ensures.1 ∙ ap neg_ℤ num_is) (to_z-of_z w128 c.in_ok-den.den den_fits ∙ c.in_ok-den.ensures.1 ∙ ap neg_ℤ den_is)
