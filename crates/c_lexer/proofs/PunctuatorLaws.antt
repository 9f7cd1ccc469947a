-- What the table of punctuators says of their bytes.
use Rattle.std.proofs.Common.{◌≡◌, ℕ, ◌+◌, ◌≤◌, Bool, true, not, ◌||◌, eqb, leb, List, [], ◌∷◌, length, Some, refl, sym, inl, inr}
use Rattle.std.specs.Prelude.{bytes_eq, slice_index}
use Rattle.std.specs.List.{position_from, list_all}
use Rattle.std.proofs.lemmas.Bool.{leb-true}
use Rattle.c_lang.specs.Names.{Bytes, is_digit, is_letter}
use Rattle.c_grammar.specs.Bytes.{is_white}
use Rattle.c_grammar.specs.Punctuators.{punctuators, punctuator_number}
use Rattle.c_lexer.specs.Code.Reading.{pair}
use Rattle.c_lexer.proofs.Cases.{chosen, and_both, and_false, and_true, same_bytes}

-- what all entries of a table have, a text has that is found in it
in_table : (test : Bytes → Bool) (text : Bytes) (entries : List Bytes) (k n : ℕ) → list_all test entries ≡ true → position_from (bytes_eq text) k entries ≡ Some n → test text ≡ true
in_table test text [] k n all e = absurd cc
in_table test text (entry ∷ entries) k n all e =
    let both = and_both (test entry) (list_all test entries) all in
    elim (chosen (bytes_eq text entry) (Some k) (position_from (bytes_eq text) (k + 1) entries) (Some n) e) [
      | inl h ↦ rw (same_bytes text entry h.0) both.0
      | inr h ↦ in_table test text entries (k + 1) n both.1 h.1
    ]

-- neither white space nor a digit, a letter or `#`
abbrev pub is_mark : ℕ → Bool
is_mark byte = not (is_white byte || is_digit byte || is_letter byte || eqb byte 35)

pub first_is_mark : (text : Bytes) (k : ℕ) → punctuator_number text ≡ Some k → is_mark (slice_index text 0) ≡ true
unfolding punctuator_number
first_is_mark text k e = in_table (λ text. is_mark (slice_index text 0)) text punctuators 0 k refl e

pub at_most_two : (text : Bytes) (k : ℕ) → punctuator_number text ≡ Some k → length text ≤ 2
unfolding punctuator_number
at_most_two text k e = leb-true (length text) 2 (in_table (λ text. leb (length text) 2) text punctuators 0 k refl e)

pub at_least_one : (text : Bytes) (k : ℕ) → punctuator_number text ≡ Some k → 1 ≤ length text
unfolding punctuator_number
at_least_one text k e = leb-true 1 (length text) (in_table (λ text. leb 1 (length text)) text punctuators 0 k refl e)

pub pair_is : (byte next : ℕ) → pair byte next ≡ punctuator_number (byte ∷ next ∷ [])
unfolding punctuator_number pair
pair_is byte next = sym (simp (and_false, and_true))
