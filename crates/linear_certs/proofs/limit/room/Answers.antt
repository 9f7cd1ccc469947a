use Rattle.std.proofs.Common.{rules, ◌≡◌, ◌∙◌, ◌≤◌, ◌+◌, ◌*◌, ◌^◌, ◌-ℤ◌, ◌*ℤ◌, [], refl, ap, sym, subst, length, of_z, to_z, FitsSigned}
use Rattle.std.specs.Prelude.{unsigned_abs}
use Rattle.std.specs.List.{All}
use Rattle.std.specs.Int.{w128}
use Rattle.std.proofs.lemmas.Int.{to_z-of_z}
use Rattle.std.proofs.lemmas.List.Elements.{All-head}
use Rattle.linear_rows.specs.Sums.{dot}
use Rattle.linear_certs.specs.Answers.{coordinate}
use Rattle.linear_certs.specs.Code.Limits.{room}
use Rattle.linear_certs.proofs.SizeLaws.{past-parts, past-whole, unfit-product, unfit-size, read-size, none-unfit, room-size}
use Rattle.linear_certs.proofs.limit.room.Goals as goal

pub returns-in_err-rest-clause-past : goal.returns-in_err-rest-clause-past
returns-in_err-rest-clause-past c = λ _ atoms m b d n sizes.
    let e = c.args.entry.now in
    let small = All-head (λ e. All (λ part. unsigned_abs part.1 ≤ m) e.row.parts) e [] sizes.coefficients in
    past-parts atoms m b d n (coordinate c.args.nums.now) c.args.den e sizes
    (subst (λ l. 2 ^ 127 ≤ length l * (m * n)) c.as_slice.ensures (c.in_err-rest.ensures.past refl m n (subst (All (λ part. unsigned_abs part.1 ≤ m)) (sym c.as_slice.ensures) small) sizes.nums))

pub returns-in_err-whole-clause-past : goal.returns-in_err-whole-clause-past
returns-in_err-whole-clause-past c = λ _ atoms m b d n sizes.
    let e = c.args.entry.now in
    let bound_fits : FitsSigned w128 e.row.bound = search rules in
    past-whole b d (atoms * m * n) (unfit-product (to_z w128 (of_z w128 e.row.bound)) (to_z w128 (of_z w128 c.args.den)) b d c.in_err-whole.ensures
    (read-size e.row.bound b bound_fits (All-head (λ e. unsigned_abs e.row.bound ≤ b) e [] sizes.bounds)) (read-size c.args.den d c.ranges.den sizes.dens))

pub returns-clause-past : goal.returns-clause-past
returns-clause-past c = λ none atoms m b d n sizes.
    let e = c.args.entry.now in
    let point = coordinate c.args.nums.now in
    let bound_fits : FitsSigned w128 e.row.bound = search rules in
    let whole_fits : FitsSigned w128 c.in_ok-whole.whole = search rules in
    let rest_fits : FitsSigned w128 c.in_ok-rest.rest = search rules in
    let whole_is : to_z w128 (of_z w128 c.in_ok-whole.whole) ≡ e.row.bound *ℤ c.args.den
    = to_z-of_z w128 c.in_ok-whole.whole whole_fits ∙ c.in_ok-whole.ensures.1 ∙ ap (λ z. z *ℤ to_z w128 (of_z w128 c.args.den)) (to_z-of_z w128 e.row.bound bound_fits) ∙ ap (λ z. e.row.bound *ℤ z) (to_z-of_z w128 c.args.den c.ranges.den) in
    let rest_is : to_z w128 (of_z w128 c.in_ok-rest.rest) ≡ dot point e.row.parts = to_z-of_z w128 c.in_ok-rest.rest rest_fits ∙ c.in_ok-rest.ensures.value ∙ ap (dot point) c.as_slice.ensures in
    let left = to_z w128 (of_z w128 c.in_ok-whole.whole) -ℤ to_z w128 (of_z w128 c.in_ok-rest.rest) in
    let left_is : left ≡ room point c.args.den e = ap (λ z. z -ℤ to_z w128 (of_z w128 c.in_ok-rest.rest)) whole_is ∙ ap (λ z. e.row.bound *ℤ c.args.den -ℤ z) rest_is in
    unfit-size left (b * d + atoms * m * n) (none-unfit c.checked_sub.result left c.checked_sub.ensures none) (subst (λ z. unsigned_abs z ≤ b * d + atoms * m * n) (sym left_is) (room-size atoms m b d n point c.args.den e sizes))
