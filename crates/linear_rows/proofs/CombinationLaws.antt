-- What combinations mean.
use Rattle.std.proofs.Common.{◌≡◌, ◌∙◌, ℕ, ℤ, pos, negsuc, ◌+ℤ◌, ◌*ℤ◌, ◌≤ℤ◌, ◌<ℤ◌, List, [], ◌∷◌, ap, sym, refl, arith, subst, Bool, true, false, ◌&&◌, suc, zero, ◌⊎◌, inl, inr}
use Rattle.std.specs.List.{All}
use Rattle.std.proofs.lemmas.Int.{ints}
use Rattle.std.proofs.lemmas.List.Elements.{All-head, All-tail}
use Rattle.std.proofs.Math.IntN.{zero-*ℤ, negsuc-*ℤ-pos, pos-*ℤ-pos}
use Rattle.linear_rows.specs.declared.row.Row.{Row}
use Rattle.linear_rows.specs.Sums.{plus_times, dot, Holds}
use Rattle.linear_rows.specs.Combinations.{nothing, added, combination, AreAllowed, IsConstantFalse, AreUnsatisfiable}
use Rattle.linear_rows.proofs.Ring.{dist, assoc, mul-le}
use Rattle.linear_rows.proofs.SumLaws.{dot-sums}

same-le : (a b : ℤ) → a ≡ b → a ≤ℤ b
same-le a b e = omega (arith, ints)

two-le : (a b c d s t : ℤ) → a ≤ℤ b → c ≤ℤ d → t ≡ a +ℤ c → s ≡ b +ℤ d → t ≤ℤ s
two-le a b c d s t h k e f = omega (arith, ints)

and-both : (a b : Bool) → (a && b) ≡ true → (a ≡ true) × (b ≡ true)
and-both true b h = (refl, h)
and-both false b h = absurd cc

-- A multiple of a row that is true.
times-holds : (point : ℕ → ℤ) (den t : ℤ) (row : Row) → (pos 0 ≤ℤ t) ⊎ (row.equal ≡ true) → Holds point den row → (t *ℤ dot point row.parts) ≤ℤ ((t *ℤ row.bound) *ℤ den)
times-holds point den t row (inl up) holds = subst (λ z. (t *ℤ dot point row.parts) ≤ℤ z) (sym (assoc t row.bound den)) (mul-le t _ _ up holds.below)
times-holds point den t row (inr equal) holds = same-le _ _ (ap (λ z. t *ℤ z) (holds.tight equal) ∙ sym (assoc t row.bound den))

-- The sum of a row that is true and an allowed multiple of one is true.
pub plus-holds : (point : ℕ → ℤ) (den t : ℤ) (sum row : Row) → (pos 0 ≤ℤ t) ⊎ (row.equal ≡ true) → Holds point den sum → Holds point den row → Holds point den (plus_times sum t row)
plus-holds point den t sum row allowed one two =
    let here = dot-sums point t sum.parts row.parts in
    let there = dist sum.bound (t *ℤ row.bound) den in record {
      below = two-le (dot point sum.parts) (sum.bound *ℤ den) (t *ℤ dot point row.parts) ((t *ℤ row.bound) *ℤ den) _ _ one.below (times-holds point den t row allowed two) here there;
      tight = λ both. let e = and-both sum.equal row.equal both in
          here ∙ ap (λ z. z +ℤ t *ℤ dot point row.parts) (one.tight e.0) ∙ ap (λ z. sum.bound *ℤ den +ℤ z) (ap (λ z. t *ℤ z) (two.tight e.1) ∙ sym (assoc t row.bound den)) ∙ sym there;
    }

pub added-holds : (point : ℕ → ℤ) (den : ℤ) (sum : Row) (rows : List Row) (multipliers : List ℤ) → AreAllowed rows multipliers → Holds point den sum → All (Holds point den) rows
    → Holds point den (added sum rows multipliers)
added-holds point den sum [] multipliers allowed one all = one
added-holds point den sum (row ∷ rows) [] allowed one all = one
added-holds point den sum (row ∷ rows) (t ∷ ts) allowed one all = added-holds point den (plus_times sum t row) rows ts allowed.1
    (plus-holds point den t sum row allowed.0 one (All-head (Holds point den) row rows all)) (All-tail (Holds point den) row rows all)

zero-le : (z : ℤ) → z ≡ pos 0 → pos 0 ≤ℤ z
zero-le z e = omega (arith, ints)

pub nothing-holds : (point : ℕ → ℤ) (den : ℤ) → Holds point den nothing
nothing-holds point den = record { below = zero-le _ (zero-*ℤ den); tight = λ _. sym (zero-*ℤ den) }

negative-product : (b den : ℤ) → b <ℤ pos 0 → pos 0 <ℤ den → pos 0 ≤ℤ (b *ℤ den) → ⊥
negative-product (pos b) den h k up = omega (arith, ints)
negative-product (negsuc b) (pos zero) h k up = omega (arith, ints)
negative-product (negsuc b) (negsuc d) h k up = omega (arith, ints)
negative-product (negsuc b) (pos (suc d)) h k up = let same = negsuc-*ℤ-pos b (suc d) in grind (arith, ints, same)

positive-product : (b den : ℤ) → pos 0 <ℤ b → pos 0 <ℤ den → pos 0 ≡ b *ℤ den → ⊥
positive-product (pos zero) den h k e = omega (arith, ints)
positive-product (negsuc b) den h k e = omega (arith, ints)
positive-product (pos (suc b)) (pos zero) h k e = omega (arith, ints)
positive-product (pos (suc b)) (negsuc d) h k e = omega (arith, ints)
positive-product (pos (suc b)) (pos (suc d)) h k e = let same = pos-*ℤ-pos (suc b) (suc d) in grind (arith, ints, same)

-- A constant row that is false is true nowhere.
pub false-nowhere : (point : ℕ → ℤ) (den : ℤ) (row : Row) → IsConstantFalse row → pos 0 <ℤ den → Holds point den row → ⊥
false-nowhere point den row is up holds =
    let zero_is : dot point row.parts ≡ pos 0 = ap (dot point) is.constant in
    elim is.fails [
      | inl low ↦ negative-product row.bound den low up (subst (λ z. z ≤ℤ (row.bound *ℤ den)) zero_is holds.below)
      | inr other ↦ positive-product row.bound den other.1 up (sym zero_is ∙ holds.tight other.0)
    ]

pub combination-refutes : (rows : List Row) (multipliers : List ℤ) → AreAllowed rows multipliers → IsConstantFalse (combination rows multipliers) → AreUnsatisfiable rows
combination-refutes rows multipliers allowed is point den up all =
    false-nowhere point den (combination rows multipliers) is up (added-holds point den nothing rows multipliers allowed (nothing-holds point den) all)
