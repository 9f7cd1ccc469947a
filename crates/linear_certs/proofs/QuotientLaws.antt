-- A limit in lowest terms.
use Rattle.std.proofs.Common.{◌≡◌, ◌∙◌, ◌<◌, ◌≤◌, ℕ, ◌*◌, ℤ, pos, negsuc, ◌+ℤ◌, ◌*ℤ◌, ◌≤ℤ◌, ◌<ℤ◌, ap, sym, arith, subst, suc, zero, neg_ℤ, FitsSigned}
use Rattle.std.specs.Prelude.{unsigned_abs, false}
use Rattle.std.specs.Int.{◌∣◌, w128}
use Rattle.std.specs.Int.RustNames.{int_div, int_rem, int_lt}
use Rattle.std.proofs.lemmas.Int.{ints, unsigned_abs-mul, quot-rem}
use Rattle.std.proofs.lemmas.Nat.Gcd.{mod-eq-zero_of_dvd, le_of_dvd}
use Rattle.std.proofs.Math.IntN.{*ℤ_comm, *ℤ-zero}
use Rattle.std.proofs.Math.Nat.{mul_assoc, mul-dvd-mul_left, dvd_of_mul-dvd-mul_left}
use Rattle.linear_rows.specs.Numbers.{is_zero}
use Rattle.linear_rows.proofs.Ring.{mul-le, times-one}
use Rattle.linear_certs.specs.Code.Limits.{IsReduced}
use Rattle.linear_certs.proofs.FractionLaws.{neg-cross}
use Rattle.linear_certs.proofs.SizeLaws.{abs-neg}

rem-none : (a : ℤ) (g : ℕ) → g ∣ unsigned_abs a → int_rem a (pos g) ≡ pos 0
rem-none (pos a) g h = ap pos (mod-eq-zero_of_dvd g h)
rem-none (negsuc a) g h = ap (λ n. neg_ℤ (pos n)) (mod-eq-zero_of_dvd g h)

no-rest : (a q r : ℤ) → q +ℤ r ≡ a → r ≡ pos 0 → a ≡ q
no-rest a q r e f = omega (arith, ints)

quot-exact : (a : ℤ) (g : ℕ) → g ∣ unsigned_abs a → a ≡ pos g *ℤ int_div a (pos g)
quot-exact a g h = no-rest a (int_div a (pos g) *ℤ pos g) (int_rem a (pos g)) (quot-rem a (pos g)) (rem-none a g h) ∙ *ℤ_comm (int_div a (pos g)) (pos g)

not-above : (z : ℤ) → z ≤ℤ pos 0 → pos 0 <ℤ z → ⊥
not-above z h k = omega (arith, ints)

up-part : (g : ℕ) (w z : ℤ) → pos 0 <ℤ z → z ≡ pos g *ℤ w → pos 0 <ℤ w
up-part g (pos zero) z up e = absurd (not-above z (subst (λ w. w ≤ℤ pos 0) (sym (e ∙ *ℤ-zero (pos g))) (omega (arith, ints))) up)
up-part g (pos (suc n)) z up e = omega (arith, ints)
up-part g (negsuc n) z up e = absurd (not-above z (subst (λ w. w ≤ℤ pos 0) (sym e) (subst (λ w. (pos g *ℤ negsuc n) ≤ℤ w) (*ℤ-zero (pos g)) (mul-le (pos g) (negsuc n) (pos 0) (omega (arith, ints)) (omega (arith, ints))))) up)

times-size : (g : ℕ) (z w : ℤ) (s : ℕ) → z ≡ pos g *ℤ w → unsigned_abs z * s ≡ g * (unsigned_abs w * s)
times-size g z w s e = ap (λ n. n * s) (ap unsigned_abs e ∙ unsigned_abs-mul (pos g) w) ∙ mul_assoc g (unsigned_abs w) s

pub g-up : (g : ℕ) → 0 < g → pos 0 <ℤ pos g
g-up g h = omega (arith, ints)

-- Both numbers divided by what divides them.
pub reduced-is : (num den num' den' : ℤ) (g : ℕ) → 0 < g → pos 0 <ℤ den → num' ≡ int_div num (pos g) → den' ≡ int_div den (pos g) → g ∣ unsigned_abs num → g ∣ unsigned_abs den
    → ((m s : ℕ) → m ∣ (unsigned_abs num * s) → m ∣ (unsigned_abs den * s) → m ∣ (g * s)) → IsReduced (record { num = num; den = den }) (record { num = num'; den = den' })
reduced-is num den num' den' g up den_up num_is den_is in_num in_den scales =
    let one : num ≡ pos g *ℤ num' = quot-exact num g in_num ∙ ap (λ z. pos g *ℤ z) (sym num_is) in
    let two : den ≡ pos g *ℤ den' = quot-exact den g in_den ∙ ap (λ z. pos g *ℤ z) (sym den_is) in record {
      common = pos g;
      common_up = g-up g up;
      num = one;
      den = two;
      up = up-part g den' den den_up two;
      apart = λ m s h k. dvd_of_mul-dvd-mul_left m up (scales (g * m) s
          (subst (λ n. (g * m) ∣ n) (sym (times-size g num num' s one)) (mul-dvd-mul_left m g h))
          (subst (λ n. (g * m) ∣ n) (sym (times-size g den den' s two)) (mul-dvd-mul_left m g k)));
    }

-- The limit 0.
pub reduced-zero : (num den : ℤ) → pos 0 <ℤ den → num ≡ pos 0 → IsReduced (record { num = num; den = den }) (record { num = pos 0; den = pos 1 })
reduced-zero num den up zero_is = record {
  common = den;
  common_up = up;
  num = zero_is ∙ sym (*ℤ-zero den);
  den = sym (times-one den);
  up = omega (arith, ints);
  apart = λ m s h k. subst (λ n. m ∣ n) (one-times s) k;
}
  where
    one-times : (s : ℕ) → 1 * s ≡ s
    one-times s = omega arith

neg-up : (z : ℤ) → z ≤ℤ pos 0 → is_zero z ≡ false → pos 0 <ℤ neg_ℤ z
neg-up (pos zero) h k = absurd cc
neg-up (pos (suc n)) h k = absurd (omega (arith, ints))
neg-up (negsuc n) h k = omega (arith, ints)

-- A fraction with a denominator below 0.
pub with-sign : (num den num' den' : ℤ) → den ≤ℤ pos 0 → is_zero den ≡ false → num' ≡ neg_ℤ num → den' ≡ neg_ℤ den
    → (pos 0 <ℤ den') × (den *ℤ num' ≡ num *ℤ den') × (unsigned_abs num' ≡ unsigned_abs num) × (unsigned_abs den' ≡ unsigned_abs den)
with-sign num den num' den' down nonzero e f =
    (subst (λ z. pos 0 <ℤ z) (sym f) (neg-up den down nonzero), ap (λ z. den *ℤ z) e ∙ neg-cross den num ∙ ap (λ z. num *ℤ z) (sym f), ap unsigned_abs e ∙ abs-neg num, ap unsigned_abs f ∙ abs-neg den)

-- What divides a denominator that is above 0 fits where that fits.
pub common-fits : (g : ℕ) (den : ℤ) → pos 0 <ℤ den → FitsSigned w128 den → g ∣ unsigned_abs den → FitsSigned w128 (pos g)
common-fits g (pos zero) up fits h = absurd (omega (arith, ints))
common-fits g (pos (suc n)) up fits h = let le : g ≤ suc n = le_of_dvd (omega arith) h in below g (suc n) le fits
  where
    below : (g n : ℕ) → g ≤ n → FitsSigned w128 (pos n) → FitsSigned w128 (pos g)
    below g n le fits = search (arith, ints)
common-fits g (negsuc n) up fits h = absurd (omega (arith, ints))

pub not-above-is : (z : ℤ) → int_lt (pos 0) z ≡ false → z ≤ℤ pos 0
not-above-is z h = grind (arith, ints, h)
