use Rattle.std.proofs.Common.{◌≡◌, ◌∙◌, [], ◌∷◌, ◌++◌, refl, arith, sym, subst, true, false, pos, ◌<ℤ◌}
use Rattle.std.specs.Int.{w128}
use Rattle.std.proofs.lemmas.Int.{to_z-of_z}
use Rattle.linear_certs.specs.Answers.{coordinate}
use Rattle.linear_certs.specs.Code.Limits.{IsBest, IsPast, IsLimitOf}
use Rattle.linear_certs.proofs.LimitLaws.{best-same, best-first, best-next, past-back, past-cross, small-front, small-back}
use Rattle.linear_certs.proofs.limit.tightened.Goals as goal

pub returns-then-not-is_on_side-clause-best : goal.returns-then-not-is_on_side-clause-best
returns-then-not-is_on_side-clause-best c = λ seen best.
    let off : c.is_on_side.result ≡ false = grind (arith, c.if-not-is_on_side.true) in
    best-same c.args.lower c.args.atom (coordinate c.args.nums.now) c.args.den seen c.args.entry.now c.args.best (sym c.is_on_side.ensures ∙ off) best

pub returns-in_err-limit-clause-past : goal.returns-in_err-limit-clause-past
returns-in_err-limit-clause-past c = λ _ up seen best.
    let over_is = to_z-of_z w128 c.args.den c.ranges.den in
    let point = coordinate c.args.nums.now in
    past-back point c.args.den seen (c.args.entry.now ∷ []) (subst (λ over. IsPast point over (c.args.entry.now ∷ [])) over_is (c.in_err-limit.ensures.past refl (subst (λ over. pos 0 <ℤ over) (sym over_is) up)))

pub returns-in_err-tighter-in-Some-clause-past : goal.returns-in_err-tighter-in-Some-clause-past
returns-in_err-tighter-in-Some-clause-past c = λ _ up seen best.
    let point = coordinate c.args.nums.now in
    let over = c.args.den in
    let e = c.args.entry.now in
    let limit = subst (λ over. IsLimitOf c.args.atom point over (e ∷ []) e c.in_ok-limit.limit) (to_z-of_z w128 c.args.den c.ranges.den) c.in_ok-limit.ensures.limit in
    let other = subst (IsBest c.args.lower c.args.atom point over seen) c.in-Some.is best in
    past-cross point over (seen ++ e ∷ []) c.in_ok-limit.limit c.in-Some.other up (small-back point over seen (e ∷ []) c.in_ok-limit.limit limit.small)
    (small-front point over seen (e ∷ []) c.in-Some.other other.small) (c.in_err-tighter-in-Some.ensures.past refl)

pub returns-in-None-clause-best : goal.returns-in-None-clause-best
returns-in-None-clause-best c = λ seen best.
    let on : c.is_on_side.result ≡ true = grind (arith, c.if-not-is_on_side.false) in
    best-first c.args.lower c.args.atom (coordinate c.args.nums.now) c.args.den seen c.args.entry.now c.in_ok-limit.limit (sym c.is_on_side.ensures ∙ on)
    (subst (IsBest c.args.lower c.args.atom (coordinate c.args.nums.now) c.args.den seen) c.in-None.is best)
    (subst (λ over. IsLimitOf c.args.atom (coordinate c.args.nums.now) over (c.args.entry.now ∷ []) c.args.entry.now c.in_ok-limit.limit) (to_z-of_z w128 c.args.den c.ranges.den) c.in_ok-limit.ensures.limit)

pub returns-in_ok-tighter-in-Some-clause-best : goal.returns-in_ok-tighter-in-Some-clause-best
returns-in_ok-tighter-in-Some-clause-best c = λ seen best.
    let on : c.is_on_side.result ≡ true = grind (arith, c.if-not-is_on_side.false) in
    best-next c.args.lower c.args.atom (coordinate c.args.nums.now) c.args.den seen c.args.entry.now c.in_ok-limit.limit c.in-Some.other c.in_ok-tighter-in-Some.field-0 (sym c.is_on_side.ensures ∙ on)
    (subst (λ over. IsLimitOf c.args.atom (coordinate c.args.nums.now) over (c.args.entry.now ∷ []) c.args.entry.now c.in_ok-limit.limit) (to_z-of_z w128 c.args.den c.ranges.den) c.in_ok-limit.ensures.limit) (subst (IsBest c.args.lower c.args.atom (coordinate c.args.nums.now) c.args.den seen) c.in-Some.is best) c.in_ok-tighter-in-Some.ensures.chosen
