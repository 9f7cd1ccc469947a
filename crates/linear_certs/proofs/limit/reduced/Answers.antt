use Rattle.std.proofs.Common.{rules, ◌≡◌, ◌∙◌, ◌*◌, pos, refl, ap, sym, subst, of_z, to_z, FitsSigned}
use Rattle.std.specs.Prelude.{unsigned_abs}
use Rattle.std.specs.Int.{◌∣◌, w128}
use Rattle.std.specs.Int.RustNames.{int_div}
use Rattle.std.proofs.lemmas.Int.{to_z-of_z, quot_fits}
use Rattle.linear_certs.proofs.QuotientLaws.{reduced-is, reduced-zero, common-fits, g-up}
use Rattle.linear_certs.proofs.limit.reduced.Goals as goal

pub returns-then-limit-eq0 : goal.returns-then-limit-eq0
returns-then-limit-eq0 c =
    let num_fits : FitsSigned w128 c.args.limit.num = search rules in
    let zero_is : to_z w128 0 ≡ pos 0 = refl in
    reduced-zero c.args.limit.num c.args.limit.den c.requires (sym (to_z-of_z w128 c.args.limit.num num_fits) ∙ ap (to_z w128) c.if-limit-eq0.true ∙ zero_is)

pub overflow_cast-common : goal.overflow_cast-common
overflow_cast-common c =
    let den_fits : FitsSigned w128 c.args.limit.den = search rules in
    common-fits c.divisor-common.result c.args.limit.den c.requires den_fits
    (subst (λ n. c.divisor-common.result ∣ n) (c.unsigned_abs-2.ensures.value ∙ ap unsigned_abs (to_z-of_z w128 c.args.limit.den den_fits)) c.divisor-common.ensures.divides.1)

pub nonzero_div-result : goal.nonzero_div-result
nonzero_div-result c =
    let g = c.divisor-common.result in
    let num_fits : FitsSigned w128 c.args.limit.num = search rules in
    let den_fits : FitsSigned w128 c.args.limit.den = search rules in
    let num_is = to_z-of_z w128 c.args.limit.num num_fits in
    let common_fits : FitsSigned w128 (pos g) = common-fits g c.args.limit.den c.requires den_fits
    (subst (λ n. g ∣ n) (c.unsigned_abs-2.ensures.value ∙ ap unsigned_abs (to_z-of_z w128 c.args.limit.den den_fits)) c.divisor-common.ensures.divides.1) in
    let common_is : to_z w128 g ≡ pos g = to_z-of_z w128 (pos g) common_fits in (
      c.divisor-common.ensures.up,
      subst (λ d. FitsSigned w128 (int_div (to_z w128 (of_z w128 c.args.limit.num)) d)) (sym common_is)
          (quot_fits w128 (to_z w128 (of_z w128 c.args.limit.num)) (pos g) (subst (FitsSigned w128) (sym num_is) num_fits) (g-up g c.divisor-common.ensures.up)),
    )

pub returns : goal.returns
returns c =
    let g = c.divisor-common.result in
    let num_fits : FitsSigned w128 c.args.limit.num = search rules in
    let den_fits : FitsSigned w128 c.args.limit.den = search rules in
    let num_is = to_z-of_z w128 c.args.limit.num num_fits in
    let den_is = to_z-of_z w128 c.args.limit.den den_fits in
    let in_num = subst (λ n. g ∣ n) (c.unsigned_abs.ensures.value ∙ ap unsigned_abs num_is) c.divisor-common.ensures.divides.0 in
    let in_den = subst (λ n. g ∣ n) (c.unsigned_abs-2.ensures.value ∙ ap unsigned_abs den_is) c.divisor-common.ensures.divides.1 in
    let common_is : to_z w128 g ≡ pos g = to_z-of_z w128 (pos g) (common-fits g c.args.limit.den c.requires den_fits in_den) in
    let up = g-up g c.divisor-common.ensures.up in
    let num_div : int_div (to_z w128 (of_z w128 c.args.limit.num)) (to_z w128 g) ≡ int_div c.args.limit.num (pos g) = ap (λ z. int_div z (to_z w128 g)) num_is ∙ ap (int_div c.args.limit.num) common_is in
    let den_div : int_div (to_z w128 (of_z w128 c.args.limit.den)) (to_z w128 g) ≡ int_div c.args.limit.den (pos g) = ap (λ z. int_div z (to_z w128 g)) den_is ∙ ap (int_div c.args.limit.den) common_is in
    let num_fit = subst (FitsSigned w128) (sym num_div) (quot_fits w128 c.args.limit.num (pos g) num_fits up) in
    let den_fit = subst (FitsSigned w128) (sym den_div) (quot_fits w128 c.args.limit.den (pos g) den_fits up) in
    reduced-is c.args.limit.num c.args.limit.den _ _ g c.divisor-common.ensures.up c.requires (to_z-of_z w128 _ num_fit ∙ num_div) (to_z-of_z w128 _ den_fit ∙ den_div) in_num in_den
    (λ m s h k. c.divisor-common.ensures.scales m s (subst (λ n. m ∣ (n * s)) (sym (c.unsigned_abs.ensures.value ∙ ap unsigned_abs num_is)) h) (subst (λ n. m ∣ (n * s)) (sym (c.unsigned_abs-2.ensures.value ∙ ap unsigned_abs den_is)) k))
