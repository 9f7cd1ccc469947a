use Rattle.std.proofs.Common.{rules, ◌≡◌, ◌∙◌, ◌≤◌, pos, ◌*ℤ◌, arith, ap, sym, subst, get_or, of_z, to_z, FitsSigned}
use Rattle.std.specs.Prelude.{unsigned_abs}
use Rattle.std.specs.Int.{w128}
use Rattle.std.proofs.lemmas.Int.{to_z-of_z}
use Rattle.std.proofs.lemmas.List.{length-set}
use Rattle.linear_certs.specs.Answers.{coordinate}
use Rattle.linear_certs.proofs.CountLaws.{made-next, left-next}
use Rattle.linear_certs.proofs.SizeLaws.{unfit-product, read-size}
use Rattle.linear_certs.proofs.point.multiply.Goals as goal

pub returns-in_default-clause-past : goal.returns-in_default-clause-past
returns-in_default-clause-past c = λ _ m n nums small.
    let at = c.loop-at.at in
    let item = get_or c.loop-at.nums at (pos 0) in
    let item_fits : FitsSigned w128 item = search rules in
    let by_fits : FitsSigned w128 c.args.by = search rules in
    let same : item ≡ coordinate c.args.nums.now at = c.loop-at.invariant.left at (omega arith) in
    unfit-product (to_z w128 (of_z w128 item)) (to_z w128 (of_z w128 c.args.by)) m n c.in_default.ensures (read-size item m item_fits (subst (λ z. unsigned_abs z ≤ m) (sym same) (nums at))) (read-size c.args.by n by_fits small)

pub loop-at-preserved : goal.loop-at-preserved
loop-at-preserved c =
    let inv = c.loop-at.invariant in
    let at = c.loop-at.at in
    let by = to_z w128 (of_z w128 c.args.by) in
    let item = get_or c.loop-at.nums at (pos 0) in
    let item_fits : FitsSigned w128 item = search rules in
    let product_fits : FitsSigned w128 c.in-Some.product = search rules in
    let made = to_z w128 (of_z w128 c.in-Some.product) in
    let same : item ≡ coordinate c.args.nums.now at = inv.left at (omega arith) in
    let made_is : made ≡ coordinate c.args.nums.now at *ℤ by = to_z-of_z w128 c.in-Some.product product_fits ∙ c.in-Some.ensures.1 ∙ ap (λ z. z *ℤ by) (to_z-of_z w128 item item_fits ∙ same) in
    let long = length-set c.loop-at.nums at made in record {
      within = omega arith;
      count = long ∙ inv.count;
      made = made-next c.args.nums.now c.loop-at.nums by made at c.loop-at-test.true made_is inv.made;
      left = left-next c.args.nums.now c.loop-at.nums made at inv.left;
    }
