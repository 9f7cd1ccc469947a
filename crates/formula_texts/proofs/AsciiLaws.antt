-- Written texts are ASCII.
use Rattle.std.specs.Prelude.{◌≡◌, ℕ, ℤ, pos, negsuc, zero, suc, ◌<◌, ◌≤◌, ◌^◌, Bool, true, false, ◌&&◌, ◌||◌, if◌then◌else◌, nat_lt, nat_le, unsigned_abs, bytes_eq, is_some, [], ◌∷◌, ◌++◌, All, codes}
use Rattle.std.proofs.Common.{refl, subst, arith, eqb, leb, ltb}
use Rattle.std.specs.Fmt.{decimal, signed_decimal}
use Rattle.std.specs.List.{list_all}
use Rattle.std.specs.Str.{IsAscii, IsUtf8}
use Rattle.std.proofs.lemmas.Str.{IsUtf8-from_ascii}
use Rattle.std.proofs.lemmas.Bool.{eqb-true, leb-true, ltb-true}
use Rattle.std.proofs.lemmas.Bool.Decides.{nat_tests}
use Rattle.std.proofs.lemmas.List.Elements.{All-cons, All-nil}
use Rattle.c_lang.specs.Names.{Bytes, is_word}
use Rattle.c_lexer.proofs.Cases.{and_both}
use Rattle.c_lexer.proofs.Runs.{all_mono}
use Rattle.c_grammar.specs.Bytes.{is_in_word}
use Rattle.terms.specs.declared.sym.Sym.{Sym}
use Rattle.terms.specs.Trees as tree
use Rattle.terms.specs.Trees.{TermTree, ArrayTree, FormTree}
use Rattle.formula_texts.specs.Tokens.{number_limit, count_limit, is_taken, number_in}
use Rattle.formula_texts.specs.Texts.{bracket_limit}
use Rattle.formula_texts.specs.Written.{base_text, count_text, name_text, in_brackets, is_compound_term, is_compound_form, term_text, array_text, form_text, is_entry, has_name_text, term_fits, array_fits, form_fits, term_brackets, form_brackets, has_form_text, has_term_text}
use Rattle.formula_texts.proofs.DecimalLaws.{all_in_word}
use Rattle.formula_texts.proofs.WrittenTokens.{word_run, entry_run}

is_low : ℕ → Bool
is_low byte = nat_lt byte 128

record Low (text : Bytes) : Type 0 where
  pub all : list_all is_low text ≡ true

here : (text : Bytes) → list_all is_low text ≡ true → Low text
here text h = record { all = h }

join_all : (a b : Bytes) → list_all is_low a ≡ true → list_all is_low b ≡ true → list_all is_low (a ++ b) ≡ true
join_all [] b h k = k
join_all (byte ∷ a) b h k = let both = and_both (is_low byte) (list_all is_low a) h in rw (both.0, join_all a b both.1 k) refl

joined : (a b : Bytes) → Low a → Low b → Low (a ++ b)
joined a b h k = here (a ++ b) (join_all a b h.all k.all)

low_word : (byte : ℕ) → is_in_word byte ≡ true → is_low byte ≡ true
unfolding is_low
low_word byte h = grind (arith, nat_tests)

low_run : (x : Bytes) → list_all is_in_word x ≡ true → Low x
low_run x h = here x (all_mono is_in_word is_low x low_word h)

low_36 : is_low 36 ≡ true
unfolding is_low
low_36 = refl

low_39 : is_low 39 ≡ true
unfolding is_low
low_39 = refl

low_45 : is_low 45 ≡ true
unfolding is_low
low_45 = refl

-- ---- names and numbers

low_entry : (base : Bytes) → is_entry base ≡ true → Low base
unfolding is_entry
low_entry [] h = absurd cc
low_entry (first ∷ ds) h =
    let both = and_both (eqb first 36) (bytes_eq ds (codes "r") || is_some (number_in number_limit ds)) h in
    here (first ∷ ds) (rw (eqb-true first 36 both.0, low_36, (low_run ds (entry_run ds both.1).1).all) refl)

low_base : (base : Bytes) → (is_word base || is_entry base) ≡ true → Low (base_text base)
low_base base h = by_taken (is_taken base)
  where
    by_word : (w : Bool) → is_word base ≡ w → Low base
    by_word true w = low_run base (word_run base w)
    by_word false w = low_entry base (subst (λ (b : Bool). (b || is_entry base) ≡ true) w h)

    by_taken : (t : Bool) → Low (if t then 36 ∷ base else base)
    by_taken true = here (36 ∷ base) (rw (low_36, (by_word (is_word base) refl).all) refl)
    by_taken false = by_word (is_word base) refl

low_decimal : (n : ℕ) → n < 10 ^ 64 → Low (decimal n)
low_decimal n h = low_run (decimal n) (all_in_word n h)

low_count : (n : ℕ) → n ≤ count_limit → Low (count_text n)
low_count n h = by_zero (eqb n 0)
  where
    by_zero : (b : Bool) → Low (if b then [] else 39 ∷ decimal n)
    by_zero true = here [] refl
    by_zero false = here (39 ∷ decimal n) (rw (low_39, (low_decimal n (omega arith)).all) refl)

low_name : (x : Sym) → has_name_text x ≡ true → Low (name_text x)
unfolding has_name_text name_text
low_name x h =
    let both = and_both (is_word x.base || is_entry x.base) (leb x.count count_limit) h in
    joined (base_text x.base) (count_text x.count) (low_base x.base both.0) (low_count x.count (leb-true _ _ both.1))

low_number : (z : ℤ) → nat_le (unsigned_abs z) number_limit ≡ true → Low (signed_decimal z)
low_number (pos n) h = let le = leb-true n number_limit h in low_decimal n (omega arith)
low_number (negsuc n) h = let le = leb-true (suc n) number_limit h in here (45 ∷ decimal (suc n)) (rw (low_45, (low_decimal (suc n) (omega arith)).all) refl)

-- ---- parts

part : (c : Bool) (text : Bytes) → Low text → Low (if c then in_brackets text else text)
unfolding is_low
part true text h = joined (codes "(") (text ++ codes ")") (here (codes "(") refl) (joined text (codes ")") h (here (codes ")") refl))
part false text h = h

mutual
  unfolding is_low

  low_term : (t : TermTree) → term_fits t ≡ true → Low (term_text t)
  low_term (tree.number z) h = low_number z h
  low_term (tree.name x) h = low_name x h
  low_term (tree.plus t u) h = let both = and_both (term_fits t) (term_fits u) h in
      joined _ _ (part (is_compound_term t) (term_text t) (low_term t both.0)) (joined (codes " + ") _ (here (codes " + ") refl) (part (is_compound_term u) (term_text u) (low_term u both.1)))
  low_term (tree.minus t u) h = let both = and_both (term_fits t) (term_fits u) h in
      joined _ _ (part (is_compound_term t) (term_text t) (low_term t both.0)) (joined (codes " - ") _ (here (codes " - ") refl) (part (is_compound_term u) (term_text u) (low_term u both.1)))
  low_term (tree.times t u) h = let both = and_both (term_fits t) (term_fits u) h in
      joined _ _ (part (is_compound_term t) (term_text t) (low_term t both.0)) (joined (codes " * ") _ (here (codes " * ") refl) (part (is_compound_term u) (term_text u) (low_term u both.1)))
  low_term (tree.divided t u) h = let both = and_both (term_fits t) (term_fits u) h in
      part true _ (joined _ _ (part (is_compound_term t) (term_text t) (low_term t both.0)) (joined (codes " / ") _ (here (codes " / ") refl) (part (is_compound_term u) (term_text u) (low_term u both.1))))
  low_term (tree.remainder t u) h = let both = and_both (term_fits t) (term_fits u) h in
      part true _ (joined _ _ (part (is_compound_term t) (term_text t) (low_term t both.0)) (joined (codes " % ") _ (here (codes " % ") refl) (part (is_compound_term u) (term_text u) (low_term u both.1))))
  low_term (tree.read a i) h = let both = and_both (array_fits a) (term_fits i) h in
      joined _ _ (low_array a both.0) (joined (codes "[") _ (here (codes "[") refl) (joined _ (codes "]") (part (is_compound_term i) (term_text i) (low_term i both.1)) (here (codes "]") refl)))
  low_term (tree.truth f) h = joined (codes "$truth(") _ (here (codes "$truth(") refl) (joined _ (codes ")") (part (is_compound_form f) (form_text f) (low_form f h)) (here (codes ")") refl))

  low_array : (a : ArrayTree) → array_fits a ≡ true → Low (array_text a)
  low_array (tree.array x) h = low_name x h
  low_array (tree.stored a i t) h =
      let first = and_both (array_fits a) (term_fits i && term_fits t) h in
      let both = and_both (term_fits i) (term_fits t) first.1 in
      joined (codes "$store(") _ (here (codes "$store(") refl) (joined _ _ (low_array a first.0) (joined (codes ", ") _ (here (codes ", ") refl) (joined _ _ (part (is_compound_term i) (term_text i) (low_term i both.0))
      (joined (codes ", ") _ (here (codes ", ") refl) (joined _ (codes ")") (part (is_compound_term t) (term_text t) (low_term t both.1)) (here (codes ")") refl))))))

  low_form : (f : FormTree) → form_fits f ≡ true → Low (form_text f)
  low_form tree.always h = here (codes "$true") refl
  low_form tree.never h = here (codes "$false") refl
  low_form (tree.at_most t u) h = let both = and_both (term_fits t) (term_fits u) h in
      joined _ _ (part (is_compound_term t) (term_text t) (low_term t both.0)) (joined (codes " <= ") _ (here (codes " <= ") refl) (part (is_compound_term u) (term_text u) (low_term u both.1)))
  low_form (tree.equal t u) h = let both = and_both (term_fits t) (term_fits u) h in
      joined _ _ (part (is_compound_term t) (term_text t) (low_term t both.0)) (joined (codes " == ") _ (here (codes " == ") refl) (part (is_compound_term u) (term_text u) (low_term u both.1)))
  low_form (tree.denied f) h = joined (codes "not ") _ (here (codes "not ") refl) (part (is_compound_form f) (form_text f) (low_form f h))
  low_form (tree.both f g) h = let both = and_both (form_fits f) (form_fits g) h in
      joined _ _ (part (is_compound_form f) (form_text f) (low_form f both.0)) (joined (codes " and ") _ (here (codes " and ") refl) (part (is_compound_form g) (form_text g) (low_form g both.1)))
  low_form (tree.either f g) h = let both = and_both (form_fits f) (form_fits g) h in
      joined _ _ (part (is_compound_form f) (form_text f) (low_form f both.0)) (joined (codes " or ") _ (here (codes " or ") refl) (part (is_compound_form g) (form_text g) (low_form g both.1)))

ascii : (text : Bytes) → list_all is_low text ≡ true → IsAscii text
unfolding is_low
ascii [] h i = omega arith
ascii (byte ∷ text) h zero = ltb-true _ _ (and_both (ltb byte 128) (list_all is_low text) h).0
ascii (byte ∷ text) h (suc i) = ascii text (and_both (ltb byte 128) (list_all is_low text) h).1 i

all_ascii : (text : Bytes) → list_all is_low text ≡ true → All (λ byte. byte < 128) text
unfolding is_low
all_ascii [] h = All-nil (λ byte. byte < 128)
all_ascii (byte ∷ text) h = let both = and_both (ltb byte 128) (list_all is_low text) h in All-cons (λ b. b < 128) byte text (ltb-true _ _ both.0) (all_ascii text both.1)

ascii_text : (text : Bytes) → Low text → All (λ byte. byte < 128) text × IsUtf8 text
ascii_text text h = (all_ascii text h.all, IsUtf8-from_ascii text (ascii text h.all))

pub ascii_form : (f : FormTree) → has_form_text f ≡ true → All (λ byte. byte < 128) (form_text f) × IsUtf8 (form_text f)
ascii_form f h = ascii_text (form_text f) (low_form f (and_both (form_fits f) (nat_le (form_brackets f) bracket_limit) h).0)

pub ascii_term : (t : TermTree) → has_term_text t ≡ true → All (λ byte. byte < 128) (term_text t) × IsUtf8 (term_text t)
ascii_term t h = ascii_text (term_text t) (low_term t (and_both (term_fits t) (nat_le (term_brackets t) bracket_limit) h).0)

pub ascii_name : (x : Sym) → has_name_text x ≡ true → All (λ byte. byte < 128) (name_text x) × IsUtf8 (name_text x)
ascii_name x h = ascii_text (name_text x) (low_name x h)
