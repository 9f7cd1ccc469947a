-- Quotients and remainders of whole numbers: rounded down, and rounded toward zero.
use Rattle.std.proofs.Common.{◌≡◌, ◌∙◌, ◌<◌, ℕ, ◌+◌, ◌-◌, ◌*◌, ◌/◌, ◌%◌, zero, suc, ℤ, pos, negsuc, neg_ℤ, ◌+ℤ◌, ◌-ℤ◌, ◌*ℤ◌, ◌≤ℤ◌, ◌<ℤ◌, true, false, if◌then◌else◌, ap, sym, subst, arith, ◌⊎◌, inl, inr}
use Rattle.std.specs.Prelude.{unsigned_abs, int_div, int_rem}
use Rattle.std.specs.Int.{int_div_euclid, int_rem_euclid}
use Rattle.std.specs.Ordering.{int_eq}
use Rattle.std.proofs.lemmas.Int.{ints, quot-rem}
use Rattle.std.proofs.lemmas.Bool.Decides.{Decides-int_eq}
use Rattle.std.proofs.Math.IntN.{*ℤ_comm, pos-*ℤ-pos, pos-*ℤ-negsuc}
use Rattle.std.proofs.Math.Nat.{mul-suc}
use Rattle.linear_rows.specs.Numbers.{is_zero}
use Rattle.terms.specs.Truth.{quotient_of, remainder_of}
use Rattle.cert_checker.proofs.Choices.{by_bool}

-- ---- rounded down

-- a is d times the quotient and the remainder, which is below d
pub record IsQuotient (a d q r : ℤ) : Type 0 where
  pub is : a ≡ d *ℤ q +ℤ r
  pub below : r <ℤ d

natural : (a b : ℕ) → 0 < b → a ≡ b * (a / b) + a % b
natural a b h = omega arith

up-is : (a m r : ℕ) (p : ℤ) → p ≡ pos m → a ≡ m + r → pos a ≡ p +ℤ pos r
up-is a m r p e h = omega (arith, ints)

under : (r d : ℕ) → r < d → pos r <ℤ pos d
under r d h = omega (arith, ints)

rest-below : (a d : ℕ) → 0 < d → a % d < d
rest-below a d h = omega arith

down-is : (a m n r s : ℕ) (p : ℤ) → p ≡ neg_ℤ (pos n) → n ≡ m + s → a ≡ m + r → r < s → negsuc a ≡ p +ℤ pos (s - 1 - r)
down-is a m n r s p e f g h = omega (arith, ints)

less-rest : (s r : ℕ) → 0 < s → pos (s - 1 - r) <ℤ pos s
less-rest s r h = omega (arith, ints)

above-zero : (k : ℕ) → 0 < suc k
above-zero k = omega arith

pub rounded-down : (a d : ℤ) → pos 0 <ℤ d → IsQuotient a d (int_div_euclid a d) (int_rem_euclid a d)
rounded-down a (pos zero) h = absurd (omega (arith, ints))
rounded-down a (negsuc k) h = absurd (omega (arith, ints))
rounded-down (pos a) (pos (suc k)) h = record {
  is = up-is a (suc k * (a / suc k)) (a % suc k) (pos (suc k) *ℤ pos (a / suc k)) (pos-*ℤ-pos (suc k) (a / suc k))
      (natural a (suc k) (above-zero k));
  below = under (a % suc k) (suc k) (rest-below a (suc k) (above-zero k));
}
rounded-down (negsuc a) (pos (suc k)) h = record {
  is = down-is a (suc k * (a / suc k)) (suc k * suc (a / suc k)) (a % suc k) (suc k) (pos (suc k) *ℤ negsuc (a / suc k)) (pos-*ℤ-negsuc (suc k) (a / suc k)) (mul-suc (suc k) (a / suc k))
      (natural a (suc k) (above-zero k)) (rest-below a (suc k) (above-zero k));
  below = less-rest (suc k) (a % suc k) (above-zero k);
}

-- ---- rounded toward zero

nonzero-test : (d : ℤ) → is_zero d ≡ false → int_eq d (pos 0) ≡ false
nonzero-test d h = by_bool (int_eq d (pos 0)) (λ e. absurd (let other : true ≡ false = ap is_zero (sym ((Decides-int_eq d (pos 0)).0 e)) ∙ h in cc)) (λ e. e)

pub quotient-is : (a d : ℤ) → is_zero d ≡ false → quotient_of a d ≡ int_div a d
quotient-is a d h = ap (λ b. if b then pos 0 else int_div a d) (nonzero-test d h)

whole-minus : (a p q r : ℤ) → p ≡ q → q +ℤ r ≡ a → a -ℤ p ≡ r
whole-minus a p q r e f = omega (arith, ints)

pub remainder-is : (a d : ℤ) → is_zero d ≡ false → remainder_of a d ≡ int_rem a d
remainder-is a d h = whole-minus a (quotient_of a d *ℤ d) (int_div a d *ℤ d) (int_rem a d) (ap (λ q. q *ℤ d) (quotient-is a d h)) (quot-rem a d)

parts-of : (a p q : ℤ) → p ≡ q → a ≡ p +ℤ (a -ℤ q)
parts-of a p q e = omega (arith, ints)

-- A number is d times the quotient and the remainder.
pub divided-parts : (a d : ℤ) → a ≡ d *ℤ quotient_of a d +ℤ remainder_of a d
divided-parts a d = parts-of a (d *ℤ quotient_of a d) (quotient_of a d *ℤ d) (*ℤ_comm d (quotient_of a d))

size-up : (d : ℤ) → is_zero d ≡ false → 0 < unsigned_abs d
size-up (pos zero) h = absurd cc
size-up (pos (suc n)) h = omega arith
size-up (negsuc n) h = omega arith

-- The remainder is smaller than d in size, and has the sign of the number.
pub record HasRemainder (a r : ℤ) (m : ℕ) : Type 0 where
  pub signs : ((pos 0 ≤ℤ a) × (pos 0 ≤ℤ r) × (r ≤ℤ (pos m -ℤ pos 1))) ⊎ ((a ≤ℤ negsuc 0) × ((pos 1 -ℤ pos m) ≤ℤ r) × (r ≤ℤ pos 0))

small-up : (r m : ℕ) → r < m → (pos 0 ≤ℤ pos r) × (pos r ≤ℤ (pos m -ℤ pos 1))
small-up r m h = (omega (arith, ints), omega (arith, ints))

small-down : (r m : ℕ) → r < m → ((pos 1 -ℤ pos m) ≤ℤ neg_ℤ (pos r)) × (neg_ℤ (pos r) ≤ℤ pos 0)
small-down r m h = (omega (arith, ints), omega (arith, ints))

truncated : (a d : ℤ) → 0 < unsigned_abs d → HasRemainder a (int_rem a d) (unsigned_abs d)
truncated (pos a) d h = let small = small-up (a % unsigned_abs d) (unsigned_abs d) (rest-below a (unsigned_abs d) h) in
    record { signs = inl (omega (arith, ints), small.0, small.1) }
truncated (negsuc a) d h = let small = small-down (suc a % unsigned_abs d) (unsigned_abs d) (rest-below (suc a) (unsigned_abs d) h) in
    record { signs = inr (omega (arith, ints), small.0, small.1) }

pub has_remainder : (a d : ℤ) → is_zero d ≡ false → HasRemainder a (remainder_of a d) (unsigned_abs d)
has_remainder a d h = subst (λ r. HasRemainder a r (unsigned_abs d)) (sym (remainder-is a d h)) (truncated a d (size-up d h))
