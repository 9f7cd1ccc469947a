use Rattle.std.proofs.Common.{rules, ◌≡◌, ◌∙◌, pos, ◌+ℤ◌, ◌*ℤ◌, get_or, arith, ap, subst, of_z, to_z, FitsSigned, ◌++◌, ◌∷◌, [], Err}
use Rattle.std.specs.Int.{w128}
use Rattle.std.proofs.lemmas.Int.{to_z-of_z}
use Rattle.linear_rows.specs.Numbers.{fits}
use Rattle.linear_certs.specs.Code.Building.{IsMixedList}
use Rattle.linear_certs.proofs.MixLaws.{mixed-next, mixed-failed}
use Rattle.linear_certs.proofs.mix.mixed_list.Goals as goal

pub loop-at-preserved : goal.loop-at-preserved
loop-at-preserved c =
    let a = to_z w128 (of_z w128 c.args.a) in
    let b = to_z w128 (of_z w128 c.args.b) in
    let number = c.in-Ok.ensures in
    let inv = c.loop-at.invariant in
    let left_fits : FitsSigned w128 (get_or c.args.left.now c.loop-at.at (pos 0)) = search rules in
    let right_fits : FitsSigned w128 (get_or c.args.right.now c.loop-at.at (pos 0)) = search rules in
    let sum_fits : FitsSigned w128 c.in-Ok.sum = search rules in
    let left_is = to_z-of_z w128 _ left_fits in
    let right_is = to_z-of_z w128 _ right_fits in
    let exact : to_z w128 (of_z w128 c.args.a) *ℤ to_z w128 (of_z w128 (get_or c.args.left.now c.loop-at.at (pos 0))) +ℤ to_z w128 (of_z w128 c.args.b) *ℤ to_z w128 (of_z w128 (get_or c.args.right.now c.loop-at.at (pos 0)))
    ≡ a *ℤ get_or c.args.left.now c.loop-at.at (pos 0) +ℤ b *ℤ get_or c.args.right.now c.loop-at.at (pos 0)
    = ap (λ z. a *ℤ z +ℤ b *ℤ to_z w128 (of_z w128 (get_or c.args.right.now c.loop-at.at (pos 0)))) left_is ∙ ap (λ z. a *ℤ get_or c.args.left.now c.loop-at.at (pos 0) +ℤ b *ℤ z) right_is in
    let pushed : c.push.new.self.items ≡ c.loop-at.sums.items ++ c.in-Ok.sum ∷ [] = search (rules, sum_fits) in
    let step = mixed-next a b c.args.left.now c.args.right.now c.loop-at.sums.items c.push.new.self.items c.loop-at.at c.in-Ok.sum c.loop-at-test.true c.requires.count inv.1 inv.2
    (number.0 ∙ exact) (ap fits number.0 ∙ number.1) pushed in
    (omega arith, step.0, step.1)

pub returns-in-Err : goal.returns-in-Err
returns-in-Err c =
    let a = to_z w128 (of_z w128 c.args.a) in
    let b = to_z w128 (of_z w128 c.args.b) in
    let a_is : a ≡ c.args.a = to_z-of_z w128 c.args.a c.ranges.a in
    let b_is : b ≡ c.args.b = to_z-of_z w128 c.args.b c.ranges.b in
    let inv = c.loop-at.invariant in
    let left_fits : FitsSigned w128 (get_or c.args.left.now c.loop-at.at (pos 0)) = search rules in
    let right_fits : FitsSigned w128 (get_or c.args.right.now c.loop-at.at (pos 0)) = search rules in
    let left_is = to_z-of_z w128 _ left_fits in
    let right_is = to_z-of_z w128 _ right_fits in
    let exact : to_z w128 (of_z w128 c.args.a) *ℤ to_z w128 (of_z w128 (get_or c.args.left.now c.loop-at.at (pos 0))) +ℤ to_z w128 (of_z w128 c.args.b) *ℤ to_z w128 (of_z w128 (get_or c.args.right.now c.loop-at.at (pos 0)))
    ≡ a *ℤ get_or c.args.left.now c.loop-at.at (pos 0) +ℤ b *ℤ get_or c.args.right.now c.loop-at.at (pos 0)
    = ap (λ z. a *ℤ z +ℤ b *ℤ to_z w128 (of_z w128 (get_or c.args.right.now c.loop-at.at (pos 0)))) left_is ∙ ap (λ z. a *ℤ get_or c.args.left.now c.loop-at.at (pos 0) +ℤ b *ℤ z) right_is in
    let failed = mixed-failed a b c.args.left.now c.args.right.now c.loop-at.sums.items c.loop-at.at _ c.in-Err.fail c.loop-at-test.true c.requires.count inv.1 exact c.in-Err.ensures in
    subst (λ y. IsMixedList c.args.a c.args.left.now y c.args.right.now (Err c.in-Err.fail)) b_is (subst (λ x. IsMixedList x c.args.left.now b c.args.right.now (Err c.in-Err.fail)) a_is failed)
