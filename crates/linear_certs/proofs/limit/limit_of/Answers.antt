use Rattle.std.proofs.Common.{rules, ◌≡◌, ◌∙◌, ◌≤◌, ◌+◌, ◌*◌, pos, ◌<ℤ◌, ◌*ℤ◌, [], ◌∷◌, refl, ap, sym, subst, of_z, to_z, FitsSigned}
use Rattle.std.specs.Prelude.{unsigned_abs}
use Rattle.std.specs.List.{All}
use Rattle.std.specs.Int.{w128}
use Rattle.std.proofs.lemmas.Int.{to_z-of_z}
use Rattle.std.proofs.lemmas.List.Elements.{All-head}
use Rattle.linear_rows.specs.Sums.{coefficient}
use Rattle.linear_certs.specs.declared.limit.Limit.{Limit}
use Rattle.linear_certs.specs.Answers.{coordinate}
use Rattle.linear_certs.specs.Code.Limits.{room, AreSizes, IsLimitOf}
use Rattle.linear_certs.proofs.SizeLaws.{past-room, past-both, room-size, coefficient-size, if-some}
use Rattle.linear_certs.proofs.LimitLaws.{limit-is}
use Rattle.linear_certs.proofs.limit.limit_of.Goals as goal

pub returns-in_err-left-clause-past : goal.returns-in_err-left-clause-past
returns-in_err-left-clause-past c = λ _ up atoms m b d n sizes.
    let point = coordinate c.args.nums.now in
    past-room c.args.atom atoms m b d n point c.args.den c.args.entry.now c.requires.has up sizes
    (c.in_err-left.ensures.past refl atoms m b d n (subst (λ over. AreSizes atoms m b d n point over (c.args.entry.now ∷ [])) (sym (to_z-of_z w128 c.args.den c.ranges.den)) sizes))

pub returns-clause-limit : goal.returns-clause-limit
returns-clause-limit c =
    let e = c.args.entry.now in
    let point = coordinate c.args.nums.now in
    let left_fits : FitsSigned w128 c.in_ok-left.left = search rules in
    let factor_fits : FitsSigned w128 c.coefficient_of.result = search rules in
    let left_is : to_z w128 (of_z w128 c.in_ok-left.left) ≡ room point c.args.den e
    = to_z-of_z w128 c.in_ok-left.left left_fits ∙ c.in_ok-left.ensures.value ∙ ap (λ over. room point over e) (to_z-of_z w128 c.args.den c.ranges.den) in
    let factor_is : to_z w128 (of_z w128 c.coefficient_of.result) ≡ coefficient c.args.atom e.row.parts = to_z-of_z w128 c.coefficient_of.result factor_fits ∙ c.coefficient_of.ensures in
    if-some (λ (limit : Limit). (pos 0 <ℤ limit.den) × (to_z w128 (of_z w128 c.coefficient_of.result) *ℤ limit.num ≡ to_z w128 (of_z w128 c.in_ok-left.left) *ℤ limit.den)
    × (unsigned_abs limit.num ≡ unsigned_abs (to_z w128 (of_z w128 c.in_ok-left.left))) × (unsigned_abs limit.den ≡ unsigned_abs (to_z w128 (of_z w128 c.coefficient_of.result))))
    (IsLimitOf c.args.atom point c.args.den (e ∷ []) e) c.with_sign.result
    (λ limit is. limit-is c.args.atom point c.args.den e (to_z w128 (of_z w128 c.in_ok-left.left)) (to_z w128 (of_z w128 c.coefficient_of.result)) limit left_is factor_is is) c.with_sign.ensures.value

pub returns-clause-past : goal.returns-clause-past
returns-clause-past c = λ none up atoms m b d n sizes.
    let e = c.args.entry.now in
    let point = coordinate c.args.nums.now in
    let left_fits : FitsSigned w128 c.in_ok-left.left = search rules in
    let factor_fits : FitsSigned w128 c.coefficient_of.result = search rules in
    let left_is : to_z w128 (of_z w128 c.in_ok-left.left) ≡ room point c.args.den e
    = to_z-of_z w128 c.in_ok-left.left left_fits ∙ c.in_ok-left.ensures.value ∙ ap (λ over. room point over e) (to_z-of_z w128 c.args.den c.ranges.den) in
    let factor_is : to_z w128 (of_z w128 c.coefficient_of.result) ≡ coefficient c.args.atom e.row.parts = to_z-of_z w128 c.coefficient_of.result factor_fits ∙ c.coefficient_of.ensures in
    past-both c.args.atom atoms m b d n point c.args.den e c.requires.has up sizes (c.with_sign.ensures.past none (b * d + atoms * m * n) m
    (subst (λ z. unsigned_abs z ≤ b * d + atoms * m * n) (sym left_is) (room-size atoms m b d n point c.args.den e sizes))
    (subst (λ z. unsigned_abs z ≤ m) (sym factor_is) (coefficient-size c.args.atom m e.row.parts (All-head (λ e. All (λ part. unsigned_abs part.1 ≤ m) e.row.parts) e [] sizes.coefficients))))
