-- Numbers that are written are read.
use Rattle.std.specs.Prelude.{◌≡◌, ℕ, zero, suc, ◌+◌, ◌%◌, ◌^◌, ◌<◌, ◌≤◌, Bool, true, false, not, ◌||◌, [], ◌∷◌, length, get_or, Some}
use Rattle.std.proofs.lemmas.List.{length-append, get_or_append_left}
use Rattle.std.proofs.Common.{refl, ap, ◌∙◌, rules, arith, eqb, leb}
use Rattle.std.specs.Fmt.{decimal, digits}
use Rattle.std.proofs.lemmas.Bool.{le-leb}
use Rattle.std.specs.List.{list_all}
use Rattle.std.proofs.lemmas.Fmt.{decimal_is_IsNumeral_wide, decimal_by_steps_wide, decimal_digit}
use Rattle.std.proofs.lemmas.Str.Parse.{IsNumeralModel, numerals_by_fold}
use Rattle.std.proofs.lemmas.Bool.Decides.{nat_tests}
use Rattle.c_lang.specs.Names.{Bytes, is_digit}
use Rattle.c_lexer.proofs.Runs.{all_mono, digit_not_letter}
use Rattle.c_grammar.specs.Bytes.{is_in_word}
use Rattle.c_grammar.specs.Pieces.{value}
use Rattle.formula_texts.specs.Tokens.{number_in}

own : IsNumeralModel (λ ds. list_all is_digit ds ≡ true) (value 0)
own = numerals_by_fold _ (search rules) value (search rules)

pub all_digits : (n : ℕ) → n < 10 ^ 64 → list_all is_digit (decimal n) ≡ true
all_digits n h = own.from (decimal n) (decimal_is_IsNumeral_wide n h).0.1

value_decimal : (n : ℕ) → n < 10 ^ 64 → value 0 (decimal n) ≡ n
value_decimal n h = own.same (decimal n) (decimal_is_IsNumeral_wide n h).0.1 ∙ (decimal_is_IsNumeral_wide n h).1

pub all_in_word : (n : ℕ) → n < 10 ^ 64 → list_all is_in_word (decimal n) ≡ true
all_in_word n h = all_mono is_digit is_in_word (decimal n) (λ byte digit. rw (digit_not_letter byte digit, digit) refl) (all_digits n h)

first_decimal : (n : ℕ) → 0 < n → n < 10 ^ 64 → 48 < get_or (decimal n) 0 0
first_decimal n some small = (decimal_by_steps_wide (λ m ds. (0 < length ds) × (0 < m → 48 < get_or ds 0 0)) (λ m l. (omega arith, λ a. omega arith))
    (λ m ds l h. (omega (arith, length-append ds ((48 + m % 10) ∷ [])), λ a. omega (arith, get_or_append_left ds ((48 + m % 10) ∷ []) 0 0 h.0, h.1 (omega arith)))) n small).1 some

pub some_digits : (n : ℕ) → n < 10 ^ 64 → 1 ≤ length (decimal n)
some_digits n h = (decimal_by_steps_wide (λ m ds. 1 ≤ length ds) (λ m l. omega arith) (λ m ds l k. omega (arith, length-append ds ((48 + m % 10) ∷ []))) n h)

-- digits that don't begin with 0, or 0 alone
number_of_digits : (limit n : ℕ) (ds : Bytes) → 1 ≤ length ds → list_all is_digit ds ≡ true → (not (eqb (get_or ds 0 0) 48) || eqb (length ds) 1) ≡ true → value 0 ds ≡ n → n ≤ limit → number_in limit ds ≡ Some n
unfolding number_in
number_of_digits limit n [] some digits plain is fits = let never : ⊥ = omega arith in absurd never
number_of_digits limit n (first ∷ rest) some digits plain is fits =
    let size : eqb (length rest) 0 ≡ eqb (length (first ∷ rest)) 1 = lengths (length rest) in
    let within : leb (value 0 (first ∷ rest)) limit ≡ true = le-leb _ _ (omega arith) in
    rw (digits, size, plain, within) (ap (λ (m : ℕ). Some m) is)
  where
    lengths : (m : ℕ) → eqb m 0 ≡ eqb (suc m) 1
    lengths m = grind (arith, nat_tests)

plain_digits : (n : ℕ) → n < 10 ^ 64 → (not (eqb (get_or (decimal n) 0 0) 48) || eqb (length (decimal n)) 1) ≡ true
plain_digits zero h = rw (decimal_digit 0 (omega arith)) refl
plain_digits (suc n) h = let f = first_decimal (suc n) (omega arith) h in by_first (get_or (decimal (suc n)) 0 0) (eqb (length (decimal (suc n))) 1) f
  where
    by_first : (first : ℕ) (b : Bool) → 48 < first → (not (eqb first 48) || b) ≡ true
    by_first first b lt = let e = not_zero first lt in rw e refl
      where
        not_zero : (m : ℕ) → 48 < m → eqb m 48 ≡ false
        not_zero m l = grind (arith, nat_tests)

pub decimal_number : (limit n : ℕ) → n ≤ limit → n < 10 ^ 64 → number_in limit (decimal n) ≡ Some n
decimal_number limit n fits small = number_of_digits limit n (decimal n) (some_digits n small) (all_digits n small) (plain_digits n small) (value_decimal n small) fits
