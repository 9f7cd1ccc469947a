-- The number that is read is the number that the text is.
use Rattle.std.proofs.Common.{◌≡◌, ◌≢◌, ℕ, ◌+◌, ◌-◌, ◌*◌, ◌<◌, ◌≤◌, true, false, ◌&&◌, eqb, ltb, [], ◌∷◌, length, Some, None, refl, ap, arith, inl, inr}
use Rattle.std.specs.Prelude.{nat_le, slice_index}
use Rattle.std.specs.List.{list_all}
use Rattle.std.proofs.lemmas.Bool.{le-leb, leb-true}
use Rattle.std.proofs.lemmas.Bool.Decides.{nat_tests}
use Rattle.c_lang.specs.Names.{Bytes, is_digit}
use Rattle.c_grammar.specs.Pieces.{value, IsNumber}
use Rattle.c_lexer.specs.Code.Reading.{value_from, has_leading_zero, number_of}
use Rattle.c_lexer.proofs.Cases.{chosen, and_both}

value_grows : (n : ℕ) (bytes : Bytes) → n ≤ value n bytes
value_grows n [] = omega arith
value_grows n (byte ∷ bytes) = let h = value_grows (n * 10 + (byte - 48)) bytes in omega arith

value_again : (n m : ℕ) (bytes : Bytes) → list_all is_digit bytes ≡ true → value n bytes ≡ m → m ≤ 2147483647 → value_from n bytes ≡ Some m
value_again n m [] all e le = ap (λ (x : ℕ). Some x) e
value_again n m (byte ∷ bytes) all e le =
    let both = and_both (is_digit byte) (list_all is_digit bytes) all in
    let grows = value_grows (n * 10 + (byte - 48)) bytes in
    let fits : nat_le (n * 10 + (byte - 48)) 2147483647 ≡ true = le-leb _ _ (omega arith) in
    rw (both.0, fits) (value_again (n * 10 + (byte - 48)) m bytes both.1 e le)

value_is : (n m : ℕ) (bytes : Bytes) → n ≤ 2147483647 → value_from n bytes ≡ Some m → (list_all is_digit bytes ≡ true) × (value n bytes ≡ m) × (m ≤ 2147483647)
value_is n m [] le e = let same : n ≡ m = cc in (refl, same, omega arith)
value_is n m (byte ∷ bytes) le e =
    elim (chosen (is_digit byte && nat_le (n * 10 + (byte - 48)) 2147483647) (value_from (n * 10 + (byte - 48)) bytes) None (Some m) e) [
      | inl h ↦
          let t = and_both (is_digit byte) (nat_le (n * 10 + (byte - 48)) 2147483647) h.0 in
          let i = value_is (n * 10 + (byte - 48)) m bytes (leb-true _ _ t.1) h.1 in
          (rw (t.0, i.0) refl, i.1, i.2)
      | inr h ↦ absurd (let f = h.1 in cc)
    ]

no_leading_zero : (size first : ℕ) → (1 < size → first ≢ 48) → (ltb 1 size && eqb first 48) ≡ false
no_leading_zero size first h = grind (arith, nat_tests, h)

leads_no_zero : (size first : ℕ) → (ltb 1 size && eqb first 48) ≡ false → 1 < size → first ≡ 48 → ⊥
leads_no_zero size first f long e = grind (arith, nat_tests)

pub number_again : (text : Bytes) (n : ℕ) → IsNumber text n → number_of text ≡ Some n
number_again text n h = rw (no_leading_zero (length text) (slice_index text 0) h.plain) (value_again 0 n text h.digits h.value_is h.fits)

pub number_is : (text : Bytes) (n : ℕ) → 1 ≤ length text → number_of text ≡ Some n → IsNumber text n
number_is text n some e =
    elim (chosen (has_leading_zero text) None (value_from 0 text) (Some n) e) [
      | inl h ↦ absurd (let f = h.1 in cc)
      | inr h ↦
          let v = value_is 0 n text (omega arith) h.1 in
          record { some = some; digits = v.0; plain = leads_no_zero (length text) (slice_index text 0) h.0; value_is = v.1; fits = v.2 }
    ]

-- no digits are the number 0
pub number_some : (text : Bytes) (n : ℕ) → number_of text ≡ Some n → 1 ≤ n → 1 ≤ length text
number_some [] n e le = let same : 0 ≡ n = cc in omega arith
number_some (byte ∷ text) n e le = omega arith
