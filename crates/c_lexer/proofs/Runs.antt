-- Runs of bytes of a class, and what the classes leave out.
use Rattle.std.proofs.Common.{◌≡◌, ℕ, zero, suc, ◌+◌, ◌≤◌, Bool, true, false, [], ◌∷◌, ◌++◌, length, take, drop, refl, arith}
use Rattle.std.specs.Prelude.{slice_index}
use Rattle.std.specs.List.{prefix_len, list_all}
use Rattle.std.proofs.lemmas.List.{length-take}
use Rattle.std.proofs.lemmas.List.Sums.{prefix_len-le-length}
use Rattle.std.proofs.lemmas.Bool.Decides.{nat_tests}
use Rattle.c_lang.specs.Names.{Bytes, is_digit, is_letter}
use Rattle.c_grammar.specs.Bytes.{is_white, is_in_word, is_in_number, IsEnd, IsRun}
use Rattle.c_lexer.proofs.Cases.{and_both, by_test}

pub run_again : (class : ℕ → Bool) (text rest : Bytes) → IsRun class text rest → prefix_len class (text ++ rest) ≡ length text
run_again class [] [] h = refl
run_again class [] (byte ∷ rest) h = rw h.ends refl
run_again class (byte ∷ text) rest h =
    let both = and_both (class byte) (list_all class text) h.all in
    let later = run_again class text rest (record { all = both.1; ends = h.ends }) in
    rw (both.0, later) (omega arith)

run_all : (class : ℕ → Bool) (z : Bytes) → list_all class (take (prefix_len class z) z) ≡ true
run_all class [] = refl
run_all class (byte ∷ z) = by_test (λ (n : ℕ). list_all class (take n (byte ∷ z)) ≡ true) (class byte) (1 + prefix_len class z) 0
    (λ t. let e : 1 + prefix_len class z ≡ suc (prefix_len class z) = omega arith in rw (e, t, run_all class z) refl) (λ f. refl)

run_end : (class : ℕ → Bool) (z : Bytes) → IsEnd class (drop (prefix_len class z) z)
run_end class [] = tt
run_end class (byte ∷ z) = by_test (λ (n : ℕ). IsEnd class (drop n (byte ∷ z))) (class byte) (1 + prefix_len class z) 0
    (λ t. let e : 1 + prefix_len class z ≡ suc (prefix_len class z) = omega arith in rw e (run_end class z)) (λ f. f)

pub run_is : (class : ℕ → Bool) (z : Bytes) → IsRun class (take (prefix_len class z) z) (drop (prefix_len class z) z)
run_is class z = record { all = run_all class z; ends = run_end class z }

pub run_length : (class : ℕ → Bool) (z : Bytes) → length (take (prefix_len class z) z) ≡ prefix_len class z
run_length class z = omega (arith, length-take (prefix_len class z) z, prefix_len-le-length class z)

pub run_some : (class : ℕ → Bool) (byte : ℕ) (z : Bytes) → class byte ≡ true → 1 ≤ prefix_len class (byte ∷ z)
run_some class byte z t = rw t (omega arith)

pub first_taken : (n byte : ℕ) (z : Bytes) → 1 ≤ n → slice_index (take n (byte ∷ z)) 0 ≡ byte
first_taken zero byte z le = let never : ⊥ = omega arith in absurd never
first_taken (suc n) byte z le = refl

pub first_of_text : (text rest : Bytes) → 1 ≤ length text → slice_index (text ++ rest) 0 ≡ slice_index text 0
first_of_text [] rest some = let never : ⊥ = omega arith in absurd never
first_of_text (byte ∷ text) rest some = refl

pub first_all : (class : ℕ → Bool) (text : Bytes) → list_all class text ≡ true → 1 ≤ length text → class (slice_index text 0) ≡ true
first_all class [] all some = let never : ⊥ = omega arith in absurd never
first_all class (byte ∷ text) all some = (and_both (class byte) (list_all class text) all).0

-- the text that comes next ends the run
pub ends_before : (class : ℕ → Bool) (text rest : Bytes) → 1 ≤ length text → class (slice_index text 0) ≡ false → IsEnd class (text ++ rest)
ends_before class [] rest some f = let never : ⊥ = omega arith in absurd never
ends_before class (byte ∷ text) rest some f = f

pub all_mono : (p q : ℕ → Bool) (bytes : Bytes) → ((byte : ℕ) → p byte ≡ true → q byte ≡ true) → list_all p bytes ≡ true → list_all q bytes ≡ true
all_mono p q [] f h = refl
all_mono p q (byte ∷ bytes) f h =
    let both = and_both (p byte) (list_all p bytes) h in
    rw (f byte both.0, all_mono p q bytes f both.1) refl

-- ---- what the classes leave out

pub digit_not_white : (byte : ℕ) → is_digit byte ≡ true → is_white byte ≡ false
digit_not_white byte h = grind (arith, nat_tests)

pub letter_not_white : (byte : ℕ) → is_letter byte ≡ true → is_white byte ≡ false
letter_not_white byte h = grind (arith, nat_tests)

pub letter_not_digit : (byte : ℕ) → is_letter byte ≡ true → is_digit byte ≡ false
letter_not_digit byte h = grind (arith, nat_tests)

pub digit_not_letter : (byte : ℕ) → is_digit byte ≡ true → is_letter byte ≡ false
digit_not_letter byte h = grind (arith, nat_tests)

pub digit_in_number : (byte : ℕ) → is_digit byte ≡ true → is_in_number byte ≡ true
digit_in_number byte h = rw (digit_not_letter byte h, h) refl

pub letter_in_word : (byte : ℕ) → is_letter byte ≡ true → is_in_word byte ≡ true
letter_in_word byte h = rw h refl
