-- What doesn't fit 128 bits isn't small, and remainders by quotients.
use Rattle.std.proofs.Common.{◌≡◌, ℕ, ℤ, pos, ◌+ℤ◌, ◌-ℤ◌, ◌*ℤ◌, ◌<◌, ◌^◌, true, false, if◌then◌else◌, Some, None, sym, ap, ap₂, ◌∙◌, subst, arith, lit<, FitsSigned, to_z, of_z}
use Rattle.std.specs.Prelude.{nat_le, unsigned_abs, int_div, int_rem}
use Rattle.std.specs.Int.{w128, CanDivide}
use Rattle.std.specs.Ordering.{int_eq}
use Rattle.std.proofs.lemmas.Bool.Decides.{Decides-int_eq, nat_tests}
use Rattle.std.proofs.lemmas.Int.{fits_signed_from_abs, quot-rem, to_z-of_z, ints}
use Rattle.terms.specs.Truth.{quotient_of, remainder_of}
use Rattle.terms.specs.Valuations.{is_small, kept}
use Rattle.terms.proofs.Choices.{by_bool}

below_by_test : (n m k : ℕ) → nat_le n m ≡ true → m < k → n < k
below_by_test n m k e h = grind (arith, nat_tests)

small_fits : (z : ℤ) → is_small z ≡ true → FitsSigned w128 z
unfolding is_small
small_fits z e = fits_signed_from_abs w128 z (below_by_test (unsigned_abs z) (2 ^ 100) (2 ^ 127) e (lit< tt))

unkept : (z : ℤ) → ¬ (FitsSigned w128 z) → None ≡ kept z
unfolding kept
unkept z unfit = by_bool (is_small z)
    (λ e. absurd (unfit (small_fits z e)))
    (λ e. sym (ap (λ b. if b then Some z else None) e))

-- the result of an operation that doesn't fit
pub unfit : (f : ℤ → ℤ → ℤ) (a b : ℤ) → FitsSigned w128 a → FitsSigned w128 b
    → ¬ (FitsSigned w128 (f (to_z w128 (of_z w128 a)) (to_z w128 (of_z w128 b)))) → None ≡ kept (f a b)
unfit f a b fits_a fits_b h = unkept (f a b)
    (λ k. h (subst (FitsSigned w128) (sym (ap₂ f (to_z-of_z w128 a fits_a) (to_z-of_z w128 b fits_b))) k))

-- ---- division

not_zero : (b : ℤ) → (of_z w128 b ≡ 0 → ⊥) → int_eq b (pos 0) ≡ false
not_zero b h = by_bool (int_eq b (pos 0)) (λ e. absurd (h (ap (of_z w128) ((Decides-int_eq b (pos 0)).0 e)))) (λ e. e)

quotient_is : (a b : ℤ) → (of_z w128 b ≡ 0 → ⊥) → int_div a b ≡ quotient_of a b
quotient_is a b h = sym (ap (λ t. if t then pos 0 else int_div a b) (not_zero b h))

positive : (n : ℕ) → (n ≡ 0 → ⊥) → 0 < n
positive n h = omega arith

pub quotient_unfit : (a b : ℤ) → FitsSigned w128 a → FitsSigned w128 b → (of_z w128 b ≡ 0 → ⊥)
    → ¬ (CanDivide w128 (to_z w128 (of_z w128 a)) (to_z w128 (of_z w128 b))) → None ≡ kept (quotient_of a b)
quotient_unfit a b fits_a fits_b nonzero h =
    unfit int_div a b fits_a fits_b (λ fits. h (subst (λ z. 0 < of_z w128 z) (sym (to_z-of_z w128 b fits_b)) (positive (of_z w128 b) nonzero), fits))
    ∙ ap kept (quotient_is a b nonzero)

difference_back : (a q r : ℤ) → q +ℤ r ≡ a → r ≡ a -ℤ q
difference_back a q r e = omega (arith, ints)

remainder_is : (a b : ℤ) → (of_z w128 b ≡ 0 → ⊥) → int_rem a b ≡ remainder_of a b
remainder_is a b h = difference_back a (int_div a b *ℤ b) (int_rem a b) (quot-rem a b) ∙ ap (λ q. a -ℤ (q *ℤ b)) (quotient_is a b h)

pub remainder_kept : (a b z : ℤ) → FitsSigned w128 a → FitsSigned w128 b → FitsSigned w128 z → (of_z w128 b ≡ 0 → ⊥)
    → z ≡ int_rem (to_z w128 (of_z w128 a)) (to_z w128 (of_z w128 b)) → kept (to_z w128 (of_z w128 z)) ≡ kept (remainder_of a b)
remainder_kept a b z fits_a fits_b fits_z nonzero e =
    ap kept (to_z-of_z w128 z fits_z ∙ e ∙ ap₂ int_rem (to_z-of_z w128 a fits_a) (to_z-of_z w128 b fits_b) ∙ remainder_is a b nonzero)
