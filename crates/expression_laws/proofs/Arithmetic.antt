-- The tests of conditions and those of evaluation agree.
use Rattle.std.proofs.Common.{◌≡◌, ◌∙◌, ◌^◌, ◌<◌, ◌≤◌, ℕ, zero, suc, ℤ, pos, negsuc, ◌+ℤ◌, ◌-ℤ◌, ◌*ℤ◌, ◌≤ℤ◌, ◌<ℤ◌, Bool, true, false, not, ◌&&◌, ◌||◌, int_le, int_lt, IsTrue, if◌then◌else◌, refl, sym, ap, arith, Ok, Err}
use Rattle.std.specs.Prelude.{int_div, int_rem, unsigned_abs}
use Rattle.std.specs.Ordering.{int_eq}
use Rattle.std.proofs.lemmas.Int.{ints, quot-rem, rem_below}
use Rattle.std.proofs.lemmas.Bool.Decides.{Decides-int_eq, nat_tests}
use Rattle.c_lang.specs.Names.{Bytes}
use Rattle.c_lang.specs.declared.event.Trap.TheVariants as trap
use Rattle.c_lang.specs.Values.{Value, Num, fits_int, is_zero, in_range}
use Rattle.terms.specs.Truth.{number_of, quotient_of, remainder_of}
use Rattle.expression_conditions.specs.Owed.{least_int, greatest_int}
use Rattle.expression_laws.proofs.KindedValues.{Gives}

pub and_left : (a b : Bool) → (a && b) ≡ true → a ≡ true
and_left true b e = refl
and_left false true e = e
and_left false false e = e

pub and_right : (a b : Bool) → (a && b) ≡ true → b ≡ true
and_right true b e = e
and_right false true e = refl
and_right false false e = e

pub one_of_two : (a b : Bool) → IsTrue a → IsTrue (a || b)
one_of_two true b h = refl
one_of_two false b h = absurd cc

pub other_of_two : (a b : Bool) → IsTrue b → IsTrue (a || b)
other_of_two true b h = refl
other_of_two false b h = h

pub at_most_test : (a b : ℤ) → IsTrue (int_le a b) → a ≤ℤ b
at_most_test a b h = grind (arith, ints, h)

-- between the bounds is in range
pub in_bounds : (z : ℤ) → IsTrue (int_le least_int z && int_le z greatest_int) → IsTrue (fits_int z)
in_bounds z h = by_sign z (at_most_test least_int z (and_left _ _ h)) (at_most_test z greatest_int (and_right _ _ h))
  where
    by_sign : (z : ℤ) → least_int ≤ℤ z → z ≤ℤ greatest_int → IsTrue (fits_int z)
    by_sign (pos n) low high = let less : n < 2 ^ 31 = omega (arith, ints, high) in grind (arith, nat_tests, less)
    by_sign (negsuc n) low high = let less : n < 2 ^ 31 = omega (arith, ints, low) in grind (arith, nat_tests, less)

pub zero_test : (z : ℤ) → is_zero z ≡ int_eq z (pos 0)
zero_test (pos zero) = refl
zero_test (pos (suc n)) = by_bool (int_eq (pos (suc n)) (pos 0)) refl
  where
    by_bool : (b : Bool) → int_eq (pos (suc n)) (pos 0) ≡ b → false ≡ b
    by_bool true e = let same : pos (suc n) ≡ pos 0 = (Decides-int_eq (pos (suc n)) (pos 0)).0 e in absurd (omega (arith, ints, same))
    by_bool false e = refl
zero_test (negsuc n) = refl

pub less_test : (x y : ℤ) → int_le (x +ℤ pos 1) y ≡ int_lt x y
less_test x y = by_bool (int_lt x y) refl
  where
    by_bool : (b : Bool) → int_lt x y ≡ b → int_le (x +ℤ pos 1) y ≡ b
    by_bool true e = let less : x <ℤ y = grind (arith, ints, e) in let le : (x +ℤ pos 1) ≤ℤ y = omega (arith, ints, less) in grind (arith, ints, le)
    by_bool false e = let less : y ≤ℤ x = grind (arith, ints, e) in let lt : y <ℤ (x +ℤ pos 1) = omega (arith, ints, less) in grind (arith, ints, lt)

pub remainder_test : (a b : ℤ) → int_rem a b ≡ a -ℤ (int_div a b *ℤ b)
remainder_test a b = let sum = quot-rem a b in grind (arith, ints, sum)

-- what is in range is a value
pub range_gives : (z : ℤ) → IsTrue (fits_int z) → Gives (in_range {F = Bytes} z) (λ v. v ≡ Num z)
range_gives z h = by_bool (fits_int z) h
  where
    by_bool : (b : Bool) → IsTrue b → Gives (if b then Ok (Num z) else Err trap.Overflow) (λ (v : Value Bytes). v ≡ Num z)
    by_bool true h = refl
    by_bool false h = absurd cc

-- ---- truth values

pub true_false : true ≡ false → ⊥
true_false e = cc

-- a truth value's number isn't 0 exactly where it is true
pub truth_back : (b : Bool) → b ≡ not (is_zero (number_of b))
truth_back true = refl
truth_back false = refl

pub not_zero : (z : ℤ) → not (int_eq z (pos 0)) ≡ not (is_zero z)
not_zero z = ap not (sym (zero_test z))

pub double_not : (b : Bool) → not (not b) ≡ b
double_not true = refl
double_not false = refl

pub small_number : (b : Bool) → IsTrue (fits_int (number_of b))
small_number true = refl
small_number false = refl

-- ---- quotients and remainders as formulas have them

pub not_zero_false : (z : ℤ) → IsTrue (not (int_eq z (pos 0))) → is_zero z ≡ false
not_zero_false (pos zero) h = absurd cc
not_zero_false (pos (suc m)) h = refl
not_zero_false (negsuc m) h = refl

pub quotient_is : (x y : ℤ) → is_zero y ≡ false → quotient_of x y ≡ int_div x y
quotient_is x y e = ap (λ b. if b then pos 0 else int_div x y) (sym (zero_test y) ∙ e)

pub remainder_is : (x y : ℤ) → is_zero y ≡ false → remainder_of x y ≡ int_rem x y
remainder_is x y e = ap (λ q. x -ℤ (q *ℤ y)) (quotient_is x y e) ∙ sym (remainder_test x y)

-- a remainder is smaller than its divisor
pub remainder_fits : (x y : ℤ) → is_zero y ≡ false → IsTrue (fits_int y) → IsTrue (fits_int (int_rem x y))
remainder_fits x y e h = small (int_rem x y) (trans_less (rem_below x y (above y e)) (size y h))
  where
    above : (y : ℤ) → is_zero y ≡ false → 0 < unsigned_abs y
    above (pos zero) e = absurd cc
    above (pos (suc m)) e = omega arith
    above (negsuc m) e = omega arith

    size : (y : ℤ) → IsTrue (fits_int y) → unsigned_abs y ≤ 2 ^ 31
    size (pos m) h = let less : m < 2 ^ 31 = grind (arith, nat_tests, h) in omega (arith, less)
    size (negsuc m) h = let less : m < 2 ^ 31 = grind (arith, nat_tests, h) in omega (arith, less)

    trans_less : {a b c : ℕ} → a < b → b ≤ c → a < c
    trans_less p q = omega (arith, p, q)

    small : (z : ℤ) → unsigned_abs z < 2 ^ 31 → IsTrue (fits_int z)
    small (pos m) less = grind (arith, nat_tests, less)
    small (negsuc m) less = let below : m < 2 ^ 31 = omega (arith, less) in grind (arith, nat_tests, below)
