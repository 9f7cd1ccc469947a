use Rattle.std.proofs.Common.{rules, ◌≡◌, ◌∙◌, ◌≤◌, ◌+◌, ◌*◌, ◌+ℤ◌, ◌*ℤ◌, pos, refl, arith, ap, sym, subst, get_or, drop, to_z, of_z, FitsSigned}
use Rattle.std.specs.Prelude.{unsigned_abs}
use Rattle.std.specs.Int.{w128}
use Rattle.std.proofs.lemmas.Int.{to_z-of_z}
use Rattle.linear_rows.specs.Sums.{dot}
use Rattle.linear_certs.specs.Answers.{coordinate}
use Rattle.linear_certs.proofs.PointLaws.{dot-next}
use Rattle.linear_certs.proofs.SizeLaws.{abs-add, abs-mul, part-next, part-last}
use Rattle.linear_certs.proofs.limit.dot.Goals as goal

pub returns-in_default-clause-past : goal.returns-in_default-clause-past
returns-in_default-clause-past c = λ _ m n all nums.
    let parts = c.args.parts.now in
    let point = coordinate c.args.nums.now in
    let at = c.loop-at.at in
    let part = get_or parts at (0, pos 0) in
    let factor_fits : FitsSigned w128 part.1 = search rules in
    let number_fits : FitsSigned w128 c.number_of.result = search rules in
    let product : to_z w128 (of_z w128 part.1) *ℤ to_z w128 (of_z w128 c.number_of.result) ≡ part.1 *ℤ point part.0
    = ap (λ z. z *ℤ to_z w128 (of_z w128 c.number_of.result)) (to_z-of_z w128 part.1 factor_fits) ∙ ap (λ z. part.1 *ℤ z) (to_z-of_z w128 c.number_of.result number_fits ∙ c.number_of.ensures) in
    part-last at _ (m * n) _ c.loop-at-test.true (c.in_default.ensures.past refl (at * (m * n)) (m * n) (c.loop-at.invariant.size m n all nums)
    (subst (λ z. unsigned_abs z ≤ m * n) (sym product) (abs-mul part.1 (point part.0) m n (all at (0, pos 0) c.loop-at-test.true) (nums part.0))))

pub loop-at-preserved : goal.loop-at-preserved
loop-at-preserved c =
    let parts = c.args.parts.now in
    let point = coordinate c.args.nums.now in
    let at = c.loop-at.at in
    let inv = c.loop-at.invariant in
    let sum = to_z w128 c.loop-at.sum-bits in
    let part = get_or parts at (0, pos 0) in
    let factor_fits : FitsSigned w128 part.1 = search rules in
    let number_fits : FitsSigned w128 c.number_of.result = search rules in
    let next_fits : FitsSigned w128 c.in-Some.next = search rules in
    let next_is : to_z w128 (of_z w128 c.in-Some.next) ≡ sum +ℤ part.1 *ℤ point part.0
    = to_z-of_z w128 c.in-Some.next next_fits ∙ c.in-Some.ensures.value ∙ ap (λ z. sum +ℤ z *ℤ to_z w128 (of_z w128 c.number_of.result)) (to_z-of_z w128 part.1 factor_fits)
    ∙ ap (λ z. sum +ℤ part.1 *ℤ z) (to_z-of_z w128 c.number_of.result number_fits ∙ c.number_of.ensures) in record {
      within = omega arith;
      sum = dot-next point parts at (0, pos 0) sum c.loop-at-test.true inv.sum ∙ ap (λ z. z +ℤ dot point (drop (at + 1) parts)) (sym next_is);
      size = λ m n all nums. subst (λ z. unsigned_abs z ≤ (at + 1) * (m * n)) (sym next_is) (part-next at (m * n) (unsigned_abs (sum +ℤ part.1 *ℤ point part.0))
          (abs-add sum (part.1 *ℤ point part.0) (at * (m * n)) (m * n) (inv.size m n all nums) (abs-mul part.1 (point part.0) m n (all at (0, pos 0) c.loop-at-test.true) (nums part.0))));
    }
