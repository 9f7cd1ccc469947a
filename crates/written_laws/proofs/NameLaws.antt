-- What names begin with.
use Rattle.std.specs.Prelude.{◌≡◌, ℕ, Bool, true, false, not, ◌&&◌, ◌==◌, [], ◌∷◌}
use Rattle.std.proofs.Common.{refl, sym, subst, inl, inr}
use Rattle.std.proofs.lemmas.Bool.{eqb-true}
use Rattle.c_lang.specs.Names.{Bytes, is_letter, is_word, is_reserved}
use Rattle.c_lang.specs.declared.unit.Unit.{Unit}
use Rattle.c_grammar.specs.Words.{is_allowed}
use Rattle.c_grammar.specs.Scopes.{temporary}
use Rattle.written_laws.specs.SourceNames.{IsName, word, made, dollar, begins_with, IsReservedHere}

first_true : (a b : Bool) → (a && b) ≡ true → a ≡ true
first_true true b h = refl
first_true false b h = h

letter_is_no_dollar : (byte : ℕ) → is_letter byte ≡ true → (byte == dollar) ≡ false
letter_is_no_dollar byte h = by_test (byte == dollar) refl
  where
    by_test : (b : Bool) → (byte == dollar) ≡ b → (byte == dollar) ≡ false
    by_test false is = is
    by_test true is = absurd (let no : is_letter dollar ≡ true = subst (λ (n : ℕ). is_letter n ≡ true) (eqb-true byte dollar is) h in cc)

word_begins : (x : Bytes) → is_word x ≡ true → begins_with dollar x ≡ false
word_begins [] h = refl
word_begins (byte ∷ rest) h = letter_is_no_dollar byte (first_true (is_letter byte) _ h)

temporary_begins : (n : ℕ) → begins_with dollar (temporary n) ≡ false
unfolding temporary
temporary_begins n = refl

pub no_dollar : (u : Unit) (x : Bytes) → IsName u x → begins_with dollar x ≡ false
no_dollar u x (word h) = word_begins x h.word
no_dollar u x (made n is) = subst (λ (y : Bytes). begins_with dollar y ≡ false) (sym is) (temporary_begins n)

allowed_then : (reserved allowed : Bool) → (reserved && not allowed) ≡ false → reserved ≡ true → allowed ≡ true
allowed_then true true h k = refl
allowed_then true false h k = absurd cc
allowed_then false allowed h k = absurd cc

pub reserved : (u : Unit) (x : Bytes) → IsName u x → is_reserved x ≡ true → IsReservedHere u x
reserved u x (word h) k = inl (allowed_then (is_reserved x) (is_allowed u x) h.allowed k)
reserved u x (made n is) k = inr (n, is)
