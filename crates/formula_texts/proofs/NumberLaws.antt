-- The number that is read is the one that the digits are.
use Rattle.std.proofs.Common.{◌≡◌, ℕ, suc, ◌+◌, ◌-◌, ◌*◌, ◌<◌, ◌≤◌, Bool, true, false, not, ◌&&◌, ◌||◌, cond, eqb, ltb, leb, [], ◌∷◌, length, Option, Some, None, refl, ◌∙◌, arith}
use Rattle.std.specs.List.{list_all, prefix_len}
use Rattle.std.proofs.lemmas.Bool.{le-leb, leb-true}
use Rattle.std.proofs.lemmas.Bool.Decides.{nat_tests}
use Rattle.c_lang.specs.Names.{Bytes, is_digit}
use Rattle.c_lexer.proofs.Cases.{and_false}
use Rattle.c_grammar.specs.Bytes.{is_in_word}
use Rattle.c_grammar.specs.Pieces.{value}
use Rattle.formula_texts.specs.Tokens.{number_in}
use Rattle.formula_texts.specs.Code.Lexing.{value_from, number_of}

value_grows : (n : ℕ) (bytes : Bytes) → n ≤ value n bytes
value_grows n [] = omega arith
value_grows n (byte ∷ bytes) = let h = value_grows (n * 10 + (byte - 48)) bytes in omega arith

too_large : (n limit : ℕ) → limit < n → leb n limit ≡ false
too_large n limit h = grind (arith, nat_tests)

ltb-above : (n limit : ℕ) → leb n limit ≡ false → limit < n
ltb-above n limit h = grind (arith, nat_tests)

pub value-is : (limit front : ℕ) (bytes : Bytes) → front ≤ limit → value_from limit front bytes ≡ cond (list_all is_digit bytes && leb (value front bytes) limit) (Some (value front bytes)) None
value-is limit front [] le = rw (le-leb front limit le) refl
value-is limit front (byte ∷ bytes) le = by_digit (λ h. value-is limit (front * 10 + (byte - 48)) bytes h) (is_digit byte) refl
  where
    n : ℕ
    n = front * 10 + (byte - 48)

    Later : Type 0
    Later = n ≤ limit → value_from limit n bytes ≡ cond (list_all is_digit bytes && leb (value n bytes) limit) (Some (value n bytes)) None

    by_limit : Later → (l : Bool) → leb n limit ≡ l → is_digit byte ≡ true → value_from limit front (byte ∷ bytes) ≡ cond (list_all is_digit (byte ∷ bytes) && leb (value n bytes) limit) (Some (value n bytes)) None
    by_limit later true l t = rw (t, l) (later (leb-true n limit l))
    by_limit later false l t =
        let large : leb (value n bytes) limit ≡ false = too_large (value n bytes) limit (omega (arith, value_grows n bytes, ltb-above n limit l)) in
        rw (t, l, large, and_false (list_all is_digit bytes)) refl

    by_digit : Later → (t : Bool) → is_digit byte ≡ t → value_from limit front (byte ∷ bytes) ≡ cond (list_all is_digit (byte ∷ bytes) && leb (value n bytes) limit) (Some (value n bytes)) None
    by_digit later true t = by_limit later (leb n limit) refl t
    by_digit later false t = rw t refl

-- the tests in their two orders
orders : (long zero_first digits fits : Bool) (x : Option ℕ)
    → cond (long && zero_first) None (cond (digits && fits) x None) ≡ cond ((digits && (not zero_first || not long)) && fits) x None
orders true true true fits x = refl
orders true true false fits x = refl
orders true false true fits x = refl
orders true false false fits x = refl
orders false true true fits x = refl
orders false true false fits x = refl
orders false false true fits x = refl
orders false false false fits x = refl

is_some_first : (n : ℕ) → eqb (suc n) 0 ≡ false
is_some_first n = grind (arith, nat_tests)

no_more : (n : ℕ) → eqb n 0 ≡ not (ltb 1 (suc n))
no_more n = grind (arith, nat_tests)

pub number_is : (limit : ℕ) (digits : Bytes) → number_of limit digits ≡ number_in limit digits
unfolding number_in
number_is limit [] = refl
number_is limit (first ∷ rest) =
    let v = value-is limit 0 (first ∷ rest) (omega arith) in
    rw (is_some_first (length rest), no_more (length rest), v) (orders (ltb 1 (length (first ∷ rest))) (eqb first 48) (list_all is_digit (first ∷ rest)) (leb (value 0 (first ∷ rest)) limit) (Some (value 0 (first ∷ rest))))

run_starts : (byte : ℕ) (n m : ℕ) → eqb (1 + n) (suc m) ≡ eqb n m
run_starts byte n m = grind (arith, nat_tests)

not_none : (m : ℕ) → eqb 0 (suc m) ≡ false
not_none m = grind (arith, nat_tests)

-- a run that is as long as the text
pub run_all : (text : Bytes) → eqb (prefix_len is_in_word text) (length text) ≡ list_all is_in_word text
run_all [] = refl
run_all (byte ∷ text) = by_case (run_all text) (is_in_word byte) refl
  where
    by_case : eqb (prefix_len is_in_word text) (length text) ≡ list_all is_in_word text → (b : Bool) → is_in_word byte ≡ b → eqb (prefix_len is_in_word (byte ∷ text)) (length (byte ∷ text)) ≡ list_all is_in_word (byte ∷ text)
    by_case later true t = rw t (run_starts byte (prefix_len is_in_word text) (length text) ∙ later)
    by_case later false t = rw t (not_none (length text))
