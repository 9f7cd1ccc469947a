-- The text of a multiplier is its decimal text.
use Rattle.std.proofs.Common.{◌≡◌, ◌∙◌, ◌<◌, ◌≤◌, ◌+◌, ◌-◌, ◌*◌, ◌/◌, ◌%◌, ◌^◌, ℕ, ℤ, pos, negsuc, List, [], ◌∷◌, ◌++◌, Option, None, Some, Bool, true, false, option_map, option_and_then, length, get_or, zero, suc, length-append, append_assoc, append-nil, ap, sym, refl, arith, nat_abs, neg_ℤ, ◌==◌, if◌then◌else◌, subst}
use Rattle.std.specs.Prelude.{decimal}
use Rattle.std.specs.Fmt.{signed_decimal}
use Rattle.std.proofs.lemmas.Bool.Decides.{nat_tests}
use Rattle.std.proofs.lemmas.Fmt.{decimal_by_steps_wide, decimal_step_wide, decimal_digit}
use Rattle.cert_form.specs.Code.Numbers.{with_digit, digits_from, positive_in, zero_in, multiplier_in}
use Rattle.cert_form.proofs.Digits.{digits-none}

-- ---- a decimal text is read as its number

digits-append : (so_far : Option ℕ) (ds : List ℕ) (d : ℕ) → digits_from so_far (ds ++ d ∷ []) ≡ option_and_then (with_digit d) (digits_from so_far ds)
digits-append so_far [] d = refl
digits-append so_far (x ∷ xs) d = digits-append (option_and_then (with_digit x) so_far) xs d

-- The digits are read back, and the first is no zero where the number is none.
record AreDigits (n : ℕ) (ds : List ℕ) : Type 0 where
  nonempty : 0 < length ds
  value : n ≤ 2 ^ 100 → digits_from (Some 0) ds ≡ Some n
  first : 0 < n → 48 < get_or ds 0 0

next-digit : (m d : ℕ) → d < 10 → 10 * m + d ≤ 2 ^ 100 → with_digit (48 + d) m ≡ Some (10 * m + d)
next-digit m d h bound = grind (arith, nat_tests)

first-kept : (ds : List ℕ) (d : ℕ) → 0 < length ds → get_or (ds ++ d ∷ []) 0 0 ≡ get_or ds 0 0
first-kept [] d h = absurd (omega arith)
first-kept (x ∷ xs) d h = refl

one-digit : (n : ℕ) → n < 10 → AreDigits n ((48 + n) ∷ [])
one-digit n h = record {
  nonempty = omega arith;
  value = λ bound. next-digit 0 n h (omega arith) ∙ ap Some (omega arith);
  first = λ positive. omega arith;
}

more-digits : (n : ℕ) (ds : List ℕ) → 10 ≤ n → AreDigits (n / 10) ds → AreDigits n (ds ++ ((48 + n % 10) ∷ []))
more-digits n ds h are =
    let small : n / 10 ≤ n = omega arith in
    let sum : 10 * (n / 10) + n % 10 ≡ n = omega arith in
    let one-more : n ≤ 2 ^ 100 → option_and_then (with_digit (48 + n % 10)) (digits_from (Some 0) ds) ≡ Some n =
    λ bound. rw (are.value (omega arith)) (next-digit (n / 10) (n % 10) (omega arith) (omega arith) ∙ ap (λ (k : ℕ). Some k) sum) in
    record {
      nonempty = omega (arith, length-append ds ((48 + n % 10) ∷ []));
      value = λ bound. digits-append (Some 0) ds (48 + n % 10) ∙ one-more bound;
      first = λ positive. rw (first-kept ds (48 + n % 10) are.nonempty) (are.first (omega arith));
    }

decimal-digits : (n : ℕ) → n < 10 ^ 64 → AreDigits n (decimal n)
decimal-digits = decimal_by_steps_wide AreDigits one-digit more-digits

no-zero : (x : ℕ) (xs : List ℕ) → 48 < x → positive_in (x ∷ xs) ≡ digits_from (Some 0) (x ∷ xs)
no-zero x xs h = grind (arith, nat_tests)

positive-complete : (n : ℕ) → 0 < n → n ≤ 2 ^ 100 → positive_in (decimal n) ≡ Some n
positive-complete n positive bound = from (decimal n) (decimal-digits n (omega arith))
  where
    from : (ds : List ℕ) → AreDigits n ds → positive_in ds ≡ Some n
    from [] are = absurd (let h = are.nonempty in omega arith)
    from (x ∷ xs) are = no-zero x xs (are.first positive) ∙ are.value bound

pub multiplier-complete : (z : ℤ) → nat_abs z ≤ 2 ^ 100 → multiplier_in (signed_decimal z) ≡ Some z
multiplier-complete (pos zero) bound = ap multiplier_in (decimal_digit 0 (omega arith))
multiplier-complete (pos (suc n)) bound = plain (decimal (suc n)) (decimal-digits (suc n) (omega arith)) ∙ ap (option_map pos) (positive-complete (suc n) (omega arith) bound)
  where
    plain : (ds : List ℕ) → AreDigits (suc n) ds → multiplier_in ds ≡ option_map pos (positive_in ds)
    plain [] are = absurd (let h = are.nonempty in omega arith)
    plain (x ∷ xs) are = let h = are.first (omega arith) in grind (arith, nat_tests)
multiplier-complete (negsuc n) bound = rw (positive-complete (suc n) (omega arith) bound) refl

-- ---- what is read as a number is its decimal text

-- what digits add to a number that is read already
record AreRead (before n : ℕ) (ds : List ℕ) : Type 0 where
  text : decimal n ≡ decimal before ++ ds
  positive : 0 < n
  bound : n ≤ 2 ^ 100

-- a number with one digit more
record IsNext (m d k : ℕ) : Type 0 where
  is : k ≡ 10 * m + (d - 48)
  least : 48 ≤ d
  most : d ≤ 57
  bound : k ≤ 2 ^ 100

with-digit-is : (d m k : ℕ) → with_digit d m ≡ Some k → IsNext m d k
with-digit-is d m k e = record { is = grind (arith, nat_tests); least = grind (arith, nat_tests); most = grind (arith, nat_tests); bound = grind (arith, nat_tests) }

decimal-next : (m d k : ℕ) → 0 < m → IsNext m d k → decimal k ≡ decimal m ++ d ∷ []
decimal-next m d k positive next =
    let is = next.is in let least = next.least in let most = next.most in let bound = next.bound in
    let front : k / 10 ≡ m = omega arith in
    let last : 48 + k % 10 ≡ d = omega arith in
    decimal_step_wide k (omega arith) (omega arith) ∙ rw (front, last) refl

digits-sound : (ds : List ℕ) (m n : ℕ) → 0 < m → m ≤ 2 ^ 100 → digits_from (Some m) ds ≡ Some n → AreRead m n ds
digits-sound [] m n positive bound e =
    let same : m ≡ n = cc in
    record { text = ap decimal (sym same) ∙ sym (append-nil (decimal m)); positive = omega arith; bound = omega arith }
digits-sound (d ∷ ds) m n positive bound e = from (with_digit d m) refl e (λ k. digits-sound ds k n)
  where
    from : (o : Option ℕ) → with_digit d m ≡ o → digits_from o ds ≡ Some n
        → ((k : ℕ) → 0 < k → k ≤ 2 ^ 100 → digits_from (Some k) ds ≡ Some n → AreRead k n ds) → AreRead m n (d ∷ ds)
    from None is rest behind = let both = sym (digits-none ds) ∙ rest in absurd (cc)
    from (Some k) is rest behind =
        let next = with-digit-is d m k is in
        let more = behind k (omega (arith, next.is)) next.bound rest in
        record {
          text = more.text ∙ ap (λ (front : List ℕ). front ++ ds) (decimal-next m d k positive next) ∙ append_assoc (decimal m) (d ∷ []) ds;
          positive = more.positive;
          bound = more.bound;
        }

record IsPositive (n : ℕ) (ds : List ℕ) : Type 0 where
  text : ds ≡ decimal n
  positive : 0 < n
  bound : n ≤ 2 ^ 100

positive-sound : (ds : List ℕ) (n : ℕ) → positive_in ds ≡ Some n → IsPositive n ds
positive-sound [] n e = absurd (cc)
positive-sound (d ∷ ds) n e = from (d == 48) refl e
  where
    rest : (o : Option ℕ) → with_digit d 0 ≡ o → (d == 48) ≡ false → digits_from o ds ≡ Some n → IsPositive n (d ∷ ds)
    rest None is other e = let both = sym (digits-none ds) ∙ e in absurd (cc)
    rest (Some k) is other e =
        let next = with-digit-is d 0 k is in
        let no : d ≡ 48 → ⊥ = λ same. grind (arith, nat_tests) in
        let least = next.least in let most = next.most in
        let value : k ≡ d - 48 = omega (arith, next.is) in
        let positive : 0 < k = omega arith in
        let more = digits-sound ds k n positive next.bound e in
        let digit : decimal k ≡ d ∷ [] = decimal_digit k (omega arith) ∙ ap (λ (x : ℕ). x ∷ []) (omega arith) in
        record { text = sym (more.text ∙ ap (λ (front : List ℕ). front ++ ds) digit); positive = more.positive; bound = more.bound }

    from : (b : Bool) → (d == 48) ≡ b → (if b then None else digits_from (Some 0) (d ∷ ds)) ≡ Some n → IsPositive n (d ∷ ds)
    from true is e = absurd (cc)
    from false is e = rest (with_digit d 0) refl is e

pub record IsNumeral (z : ℤ) (digits : List ℕ) : Type 0 where
  pub text : digits ≡ signed_decimal z
  pub bound : nat_abs z ≤ 2 ^ 100

negative-sound : (ds : List ℕ) (o : Option ℕ) (z : ℤ) → positive_in ds ≡ o → option_map (λ n. neg_ℤ (pos n)) o ≡ Some z → IsNumeral z (45 ∷ ds)
negative-sound ds None z is e = absurd (cc)
negative-sound ds (Some zero) z is e = let h = (positive-sound ds zero is).positive in absurd (omega arith)
negative-sound ds (Some (suc n)) z is e =
    let h = positive-sound ds (suc n) is in
    let same : negsuc n ≡ z = cc in
    subst (λ (y : ℤ). IsNumeral y (45 ∷ ds)) same (record { text = ap (λ (t : List ℕ). 45 ∷ t) h.text; bound = h.bound })

plain-sound : (ds : List ℕ) (o : Option ℕ) (z : ℤ) → positive_in ds ≡ o → option_map pos o ≡ Some z → IsNumeral z ds
plain-sound ds None z is e = absurd (cc)
plain-sound ds (Some n) z is e =
    let h = positive-sound ds n is in
    let same : pos n ≡ z = cc in
    subst (λ (y : ℤ). IsNumeral y ds) same (record { text = h.text; bound = h.bound })

zero-sound : (rest : List ℕ) (z : ℤ) → zero_in rest ≡ Some z → IsNumeral z (48 ∷ rest)
zero-sound [] z e =
    let same : pos 0 ≡ z = cc in
    subst (λ (y : ℤ). IsNumeral y (48 ∷ [])) same (record { text = sym (decimal_digit 0 (omega arith)); bound = omega arith })
zero-sound (x ∷ xs) z e = absurd (cc)

pub multiplier-sound : (text : List ℕ) (z : ℤ) → multiplier_in text ≡ Some z → IsNumeral z text
multiplier-sound [] z e = absurd (cc)
multiplier-sound (d ∷ ds) z e = from (d == 45) refl (d == 48) refl e
  where
    from : (minus : Bool) → (d == 45) ≡ minus → (zero_first : Bool) → (d == 48) ≡ zero_first
        → (if minus then option_map (λ n. neg_ℤ (pos n)) (positive_in ds) else (if zero_first then zero_in ds else option_map pos (positive_in (d ∷ ds)))) ≡ Some z
        → IsNumeral z (d ∷ ds)
    from true is _ _ e =
        let same : d ≡ 45 = grind (arith, nat_tests) in
        subst (λ (x : ℕ). IsNumeral z (x ∷ ds)) (sym same) (negative-sound ds (positive_in ds) z refl e)
    from false is true other e =
        let same : d ≡ 48 = grind (arith, nat_tests) in
        subst (λ (x : ℕ). IsNumeral z (x ∷ ds)) (sym same) (zero-sound ds z e)
    from false is false other e = plain-sound (d ∷ ds) (positive_in (d ∷ ds)) z refl e
