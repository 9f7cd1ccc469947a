-- The tokens of written texts.
use Rattle.std.specs.Prelude.{◌≡◌, ℕ, pos, zero, suc, ◌^◌, ◌<◌, ◌≤◌, Bool, true, false, not, ◌&&◌, ◌||◌, ◌==◌, cond, bytes_eq, is_some, List, [], ◌∷◌, ◌++◌, length, slice_index, Option, Some, None, codes}
use Rattle.std.proofs.Common.{refl, sym, ap, subst, ◌∙◌, append_assoc, append-nil, inl, inr, arith, eqb, leb}
use Rattle.std.specs.Fmt.{decimal}
use Rattle.std.specs.List.{list_all, list_any}
use Rattle.std.proofs.lemmas.Bool.{eqb-true, leb-true}
use Rattle.std.proofs.lemmas.Bool.Decides.{nat_tests}
use Rattle.c_lang.specs.Names.{Bytes, is_digit, is_letter, is_word}
use Rattle.c_lexer.proofs.Cases.{chosen, and_both, or_false, same_bytes}
use Rattle.c_lexer.proofs.Runs.{all_mono, digit_not_letter}
use Rattle.c_grammar.specs.Pieces.{value}
use Rattle.c_grammar.specs.Bytes.{is_in_word, IsEnd, IsRun}
use Rattle.formula_texts.specs.declared.token.Token.{Token}
use Rattle.formula_texts.specs.declared.token.Token.TheVariants as token
use Rattle.formula_texts.specs.declared.token.Operator.TheVariants as op
use Rattle.formula_texts.specs.declared.token.Mark.TheVariants as mark
use Rattle.formula_texts.specs.Tokens as text
use Rattle.formula_texts.specs.Tokens.{number_limit, count_limit, is_taken, found_in, own_words, own_dollar_words, plain_token, dollar_token, count_token, entry_token, number_in, pair_token, single_token, IsToken, AreTokens}
use Rattle.formula_texts.specs.Grammar.{NameText, plain, counted, name_tokens, sym_of}
use Rattle.formula_texts.specs.Written.{base_text, name_text, is_entry, has_name_text}
use Rattle.formula_texts.proofs.DecimalLaws.{all_digits, all_in_word, some_digits, decimal_number}

-- in front of any rest that has tokens, the text has these
pub record Chain (front rest : Bytes) (xs : List Token) : Type 0 where
  pub cuts : (ts : List Token) → AreTokens rest ts → AreTokens (front ++ rest) (xs ++ ts)

pub token_chain : {front rest : Bytes} (t : Token) → IsToken rest front t → Chain front rest (t ∷ [])
token_chain {front} {rest} t is = record { cuts = λ ts more. text.goes front rest t ts is more }

pub both_chains : {a b rest : Bytes} {xs ys : List Token} → Chain a (b ++ rest) xs → Chain b rest ys → Chain (a ++ b) rest (xs ++ ys)
both_chains {a} {b} {rest} {xs} {ys} f g = record {
  cuts = λ ts more.
      subst (λ (z : Bytes). AreTokens z ((xs ++ ys) ++ ts)) (sym (append_assoc a b rest))
      (subst (λ (us : List Token). AreTokens (a ++ (b ++ rest)) us) (sym (append_assoc xs ys ts)) (f.cuts (ys ++ ts) (g.cuts ts more)));
}

skip_space : (rest : Bytes) (ts : List Token) → AreTokens rest ts → AreTokens (32 ∷ rest) ts
skip_space rest ts more = text.skips (32 ∷ []) rest ts (text.white 32 refl) more

-- a token between two spaces
pub spaced : (word : Bytes) (t : Token) → ((rest : Bytes) → IsToken (32 ∷ rest) word t) → (rest : Bytes) → Chain (32 ∷ (word ++ (32 ∷ []))) rest (t ∷ [])
spaced word t is rest = record {
  cuts = λ ts more.
      let at = text.goes word (32 ∷ rest) t ts (is rest) (skip_space rest ts more) in
      subst (λ (z : Bytes). AreTokens (32 ∷ z) (t ∷ ts)) (sym (append_assoc word (32 ∷ []) rest)) (skip_space (word ++ (32 ∷ rest)) (t ∷ ts) at);
}

-- ---- marks

no_pair_by : (b : Bool) → cond {A = Option Token} b None None ≡ None
no_pair_by true = refl
no_pair_by false = refl

pub round_opens : {rest : Bytes} → Chain (codes "(") rest (token.Mark mark.RoundOpen ∷ [])
round_opens {rest} = token_chain (token.Mark mark.RoundOpen) (text.single 40 (token.Mark mark.RoundOpen) (no_pair_by (slice_index rest 0 == 61)) refl)

pub round_closes : {rest : Bytes} → Chain (codes ")") rest (token.Mark mark.RoundClose ∷ [])
round_closes {rest} = token_chain (token.Mark mark.RoundClose) (text.single 41 (token.Mark mark.RoundClose) (no_pair_by (slice_index rest 0 == 61)) refl)

pub square_opens : {rest : Bytes} → Chain (codes "[") rest (token.Mark mark.SquareOpen ∷ [])
square_opens {rest} = token_chain (token.Mark mark.SquareOpen) (text.single 91 (token.Mark mark.SquareOpen) (no_pair_by (slice_index rest 0 == 61)) refl)

pub square_closes : {rest : Bytes} → Chain (codes "]") rest (token.Mark mark.SquareClose ∷ [])
square_closes {rest} = token_chain (token.Mark mark.SquareClose) (text.single 93 (token.Mark mark.SquareClose) (no_pair_by (slice_index rest 0 == 61)) refl)

pub comma_space : {rest : Bytes} → Chain (codes ", ") rest (token.Mark mark.Comma ∷ [])
comma_space {rest} = record {
  cuts = λ ts more. text.goes (44 ∷ []) (32 ∷ rest) (token.Mark mark.Comma) ts (text.single 44 (token.Mark mark.Comma) refl refl) (skip_space rest ts more);
}

-- ---- words

pub true_word : {rest : Bytes} → IsEnd is_in_word rest → Chain (codes "$true") rest (token.True ∷ [])
unfolding dollar_token
true_word end = token_chain token.True (text.dollars (codes "true") token.True (record { all = refl; ends = end }) refl)

pub false_word : {rest : Bytes} → IsEnd is_in_word rest → Chain (codes "$false") rest (token.False ∷ [])
unfolding dollar_token
false_word end = token_chain token.False (text.dollars (codes "false") token.False (record { all = refl; ends = end }) refl)

pub truth_begins : {rest : Bytes} → Chain (codes "$truth(") rest (token.Truth ∷ token.Mark mark.RoundOpen ∷ [])
unfolding dollar_token
truth_begins {rest} = record {
  cuts = λ ts more. text.goes (codes "$truth") (codes "(" ++ rest) token.Truth (token.Mark mark.RoundOpen ∷ ts)
      (text.dollars (codes "truth") token.Truth (record { all = refl; ends = refl }) refl) (round_opens.cuts ts more);
}

pub store_begins : {rest : Bytes} → Chain (codes "$store(") rest (token.Store ∷ token.Mark mark.RoundOpen ∷ [])
unfolding dollar_token
store_begins {rest} = record {
  cuts = λ ts more. text.goes (codes "$store") (codes "(" ++ rest) token.Store (token.Mark mark.RoundOpen ∷ ts)
      (text.dollars (codes "store") token.Store (record { all = refl; ends = refl }) refl) (round_opens.cuts ts more);
}

pub not_space : {rest : Bytes} → Chain (codes "not ") rest (token.Not ∷ [])
unfolding plain_token
not_space {rest} = record {
  cuts = λ ts more. text.goes (codes "not") (32 ∷ rest) token.Not ts (text.plain (codes "not") token.Not (record { all = refl; ends = refl }) refl) (skip_space rest ts more);
}

-- ---- operators

pub plus_sign : {rest : Bytes} → Chain (codes " + ") rest (token.Operator op.Plus ∷ [])
plus_sign {rest} = spaced (codes "+") (token.Operator op.Plus) (λ r. text.single 43 (token.Operator op.Plus) refl refl) rest

pub minus_sign : {rest : Bytes} → Chain (codes " - ") rest (token.Operator op.Minus ∷ [])
minus_sign {rest} = spaced (codes "-") (token.Operator op.Minus) (λ r. text.single 45 (token.Operator op.Minus) refl refl) rest

pub times_sign : {rest : Bytes} → Chain (codes " * ") rest (token.Operator op.Times ∷ [])
times_sign {rest} = spaced (codes "*") (token.Operator op.Times) (λ r. text.single 42 (token.Operator op.Times) refl refl) rest

pub slash_sign : {rest : Bytes} → Chain (codes " / ") rest (token.Mark mark.Slash ∷ [])
slash_sign {rest} = spaced (codes "/") (token.Mark mark.Slash) (λ r. text.single 47 (token.Mark mark.Slash) refl refl) rest

pub percent_sign : {rest : Bytes} → Chain (codes " % ") rest (token.Mark mark.Percent ∷ [])
percent_sign {rest} = spaced (codes "%") (token.Mark mark.Percent) (λ r. text.single 37 (token.Mark mark.Percent) refl refl) rest

pub at_most_sign : {rest : Bytes} → Chain (codes " <= ") rest (token.Operator op.AtMost ∷ [])
at_most_sign {rest} = spaced (codes "<=") (token.Operator op.AtMost) (λ r. text.pair 60 61 (token.Operator op.AtMost) refl) rest

pub equal_sign : {rest : Bytes} → Chain (codes " == ") rest (token.Operator op.Equal ∷ [])
equal_sign {rest} = spaced (codes "==") (token.Operator op.Equal) (λ r. text.pair 61 61 (token.Operator op.Equal) refl) rest

pub and_word : {rest : Bytes} → Chain (codes " and ") rest (token.Operator op.And ∷ [])
unfolding plain_token
and_word {rest} = spaced (codes "and") (token.Operator op.And) (λ r. text.plain (codes "and") (token.Operator op.And) (record { all = refl; ends = refl }) refl) rest

pub or_word : {rest : Bytes} → Chain (codes " or ") rest (token.Operator op.Or ∷ [])
unfolding plain_token
or_word {rest} = spaced (codes "or") (token.Operator op.Or) (λ r. text.plain (codes "or") (token.Operator op.Or) (record { all = refl; ends = refl }) refl) rest

-- ---- numbers

small_number : (n : ℕ) → n ≤ number_limit → n < 10 ^ 64
small_number n h = omega arith

digits_run : (n : ℕ) (rest : Bytes) → n < 10 ^ 64 → IsEnd is_in_word rest → IsRun is_in_word (decimal n) rest
digits_run n rest small end = record { all = all_in_word n small; ends = end }

no_word : (ds : Bytes) → list_all is_digit ds ≡ true → 1 ≤ length ds → (is_word ds ≡ false) × (found_in own_words ds ≡ None)
no_word [] all some = let never : ⊥ = omega arith in absurd never
no_word (first ∷ ds) all some =
    let d = (and_both (is_digit first) (list_all is_digit ds) all).0 in
    (rw (no_letter first d) refl, grind (arith, nat_tests))
  where
    no_letter : (b : ℕ) → is_digit b ≡ true → is_letter b ≡ false
    no_letter b h = grind (arith, nat_tests)

decimal_plain : (n : ℕ) → n ≤ number_limit → plain_token (decimal n) ≡ Some (token.Number (pos n))
unfolding plain_token
decimal_plain n h =
    let small = small_number n h in
    let w = no_word (decimal n) (all_digits n small) (some_digits n small) in
    rw (w.0, w.1, decimal_number number_limit n h small) refl

pub natural_text : {rest : Bytes} (n : ℕ) → n ≤ number_limit → IsEnd is_in_word rest → Chain (decimal n) rest (token.Number (pos n) ∷ [])
natural_text {rest} n h end = token_chain (token.Number (pos n)) (text.plain (decimal n) (token.Number (pos n)) (digits_run n rest (small_number n h) end) (decimal_plain n h))

digit_first : (ds rest : Bytes) → list_all is_digit ds ≡ true → 1 ≤ length ds → (is_digit (slice_index (ds ++ rest) 0) ≡ true) × (eqb (slice_index (ds ++ rest) 0) 61 ≡ false)
digit_first [] rest all some = let never : ⊥ = omega arith in absurd never
digit_first (first ∷ ds) rest all some =
    let d = (and_both (is_digit first) (list_all is_digit ds) all).0 in (d, no_equals first d)
  where
    no_equals : (b : ℕ) → is_digit b ≡ true → eqb b 61 ≡ false
    no_equals b h = grind (arith, nat_tests)

tight_minus : (ds rest : Bytes) → list_all is_digit ds ≡ true → 1 ≤ length ds → IsToken (ds ++ rest) (45 ∷ []) (token.Operator op.TightMinus)
tight_minus ds rest all some =
    let f = digit_first ds rest all some in
    text.single 45 (token.Operator op.TightMinus) (rw f.1 refl) (rw f.0 refl)

pub negative_text : {rest : Bytes} (n : ℕ) → suc n ≤ number_limit → IsEnd is_in_word rest → Chain (45 ∷ decimal (suc n)) rest (token.Operator op.TightMinus ∷ token.Number (pos (suc n)) ∷ [])
negative_text {rest} n h end =
    let small = small_number (suc n) h in
    record {
      cuts = λ ts more. text.goes (45 ∷ []) (decimal (suc n) ++ rest) (token.Operator op.TightMinus) (token.Number (pos (suc n)) ∷ ts)
          (tight_minus (decimal (suc n)) rest (all_digits (suc n) small) (some_digits (suc n) small)) ((natural_text {rest = rest} (suc n) h end).cuts ts more);
    }

-- ---- names

-- a taken word stands behind a `$`
taken_token : (x : Bytes) → is_taken x ≡ true → (dollar_token x ≡ Some (token.Base x)) × (list_all is_in_word x ≡ true)
unfolding dollar_token
taken_token x t = by_word (bytes_eq x (codes "and")) (bytes_eq x (codes "or")) (bytes_eq x (codes "not")) (bytes_eq x (codes "null")) refl refl refl refl
  where
    by_word : (a b c d : Bool) → bytes_eq x (codes "and") ≡ a → bytes_eq x (codes "or") ≡ b → bytes_eq x (codes "not") ≡ c → bytes_eq x (codes "null") ≡ d → (dollar_token x ≡ Some (token.Base x)) × (list_all is_in_word x ≡ true)
    by_word true b c d e f g h = rw (same_bytes x (codes "and") e) (refl, refl)
    by_word false true c d e f g h = rw (same_bytes x (codes "or") f) (refl, refl)
    by_word false false true d e f g h = rw (same_bytes x (codes "not") g) (refl, refl)
    by_word false false false true e f g h = rw (same_bytes x (codes "null") h) (refl, refl)
    by_word false false false false e f g h = let z : is_taken x ≡ false = rw (e, f, g, h) refl in absurd (let y = sym z ∙ t in cc)

untaken_token : (base : Bytes) → is_taken base ≡ false → is_word base ≡ true → plain_token base ≡ Some (token.Base base)
unfolding plain_token
untaken_token base h w =
    let a = or_false (bytes_eq base (codes "and")) (list_any (bytes_eq base) (codes "or" ∷ codes "not" ∷ codes "null" ∷ [])) h in
    let b = or_false (bytes_eq base (codes "or")) (list_any (bytes_eq base) (codes "not" ∷ codes "null" ∷ [])) a.1 in
    let c = or_false (bytes_eq base (codes "not")) (list_any (bytes_eq base) (codes "null" ∷ [])) b.1 in
    let d = or_false (bytes_eq base (codes "null")) false c.1 in
    rw (a.0, b.0, c.0, d.0, w) refl

-- digits are none of the words
no_words : (ds : Bytes) (n : ℕ) → number_in number_limit ds ≡ Some n → (found_in own_dollar_words ds ≡ None) × (is_taken ds ≡ false)
unfolding number_in
no_words ds n e = (differ_all, untaken)
  where
    differs : (word : Bytes) → number_in number_limit word ≡ None → bytes_eq ds word ≡ false
    differs word none = by_test (bytes_eq ds word) refl
      where
        by_test : (b : Bool) → bytes_eq ds word ≡ b → b ≡ false
        by_test false h = refl
        by_test true h = let f = sym none ∙ ap (number_in number_limit) (sym (same_bytes ds word h)) ∙ e in absurd cc

    differ_all : found_in own_dollar_words ds ≡ None
    differ_all = rw (differs (codes "true") refl, differs (codes "false") refl, differs (codes "truth") refl, differs (codes "store") refl) refl

    untaken : is_taken ds ≡ false
    untaken = rw (differs (codes "and") refl, differs (codes "or") refl, differs (codes "not") refl, differs (codes "null") refl) refl

result_token : dollar_token (codes "r") ≡ Some (token.Base (codes "$r"))
unfolding dollar_token
result_token = refl

numbered : (ds : Bytes) (n : ℕ) → found_in own_dollar_words ds ≡ None → is_taken ds ≡ false → bytes_eq ds (codes "r") ≡ false → number_in number_limit ds ≡ Some n → dollar_token ds ≡ Some (token.Base (36 ∷ ds))
unfolding dollar_token
numbered ds n a b c e = rw (a, b, c, e) refl

all_digits_in : (ds : Bytes) (n : ℕ) → number_in number_limit ds ≡ Some n → list_all is_in_word ds ≡ true
unfolding number_in
all_digits_in [] n e = refl
all_digits_in (first ∷ rest) n e =
    elim (chosen ((list_all is_digit (first ∷ rest) && (not (eqb first 48) || eqb (length rest) 0)) && leb (value 0 (first ∷ rest)) number_limit) (Some (value 0 (first ∷ rest))) None (Some n) e) [
      | inl h ↦
          let a = and_both (list_all is_digit (first ∷ rest) && (not (eqb first 48) || eqb (length rest) 0)) (leb (value 0 (first ∷ rest)) number_limit) h.0 in
          let b = and_both (list_all is_digit (first ∷ rest)) (not (eqb first 48) || eqb (length rest) 0) a.0 in
          all_mono is_digit is_in_word (first ∷ rest) (λ byte digit. rw (digit_not_letter byte digit, digit) refl) b.0
      | inr h ↦ absurd (let f = h.1 in cc)
    ]

pub entry_run : (ds : Bytes) → (bytes_eq ds (codes "r") || is_some (number_in number_limit ds)) ≡ true → (dollar_token ds ≡ Some (token.Base (36 ∷ ds))) × (list_all is_in_word ds ≡ true)
entry_run ds h = by_r (bytes_eq ds (codes "r")) refl
  where
    by_number : bytes_eq ds (codes "r") ≡ false → (o : Option ℕ) → number_in number_limit ds ≡ o → (dollar_token ds ≡ Some (token.Base (36 ∷ ds))) × (list_all is_in_word ds ≡ true)
    by_number f None e = let z : (bytes_eq ds (codes "r") || is_some (number_in number_limit ds)) ≡ false = rw (f, e) refl in absurd (let y = sym z ∙ h in cc)
    by_number f (Some n) e = let w = no_words ds n e in (numbered ds n w.0 w.1 f e, all_digits_in ds n e)

    by_r : (b : Bool) → bytes_eq ds (codes "r") ≡ b → (dollar_token ds ≡ Some (token.Base (36 ∷ ds))) × (list_all is_in_word ds ≡ true)
    by_r true e = subst (λ (x : Bytes). (dollar_token x ≡ Some (token.Base (36 ∷ x))) × (list_all is_in_word x ≡ true)) (sym (same_bytes ds (codes "r") e)) (result_token, refl)
    by_r false e = by_number e (number_in number_limit ds) refl

pub word_run : (x : Bytes) → is_word x ≡ true → list_all is_in_word x ≡ true
word_run [] h = refl
word_run (first ∷ x) h = let both = and_both (is_letter first) (list_all is_in_word x) h in rw (both.0, both.1) refl

entry_chain : (base rest : Bytes) → is_entry base ≡ true → IsEnd is_in_word rest → Chain base rest (token.Base base ∷ [])
unfolding is_entry
entry_chain [] rest h end = absurd cc
entry_chain (first ∷ ds) rest h end =
    let both = and_both (eqb first 36) (bytes_eq ds (codes "r") || is_some (number_in number_limit ds)) h in
    let r = entry_run ds both.1 in
    subst (λ (b : ℕ). Chain (b ∷ ds) rest (token.Base (b ∷ ds) ∷ [])) (sym (eqb-true first 36 both.0))
    (token_chain (token.Base (36 ∷ ds)) (text.dollars ds (token.Base (36 ∷ ds)) (record { all = r.1; ends = end }) r.0))

base_chain : (base rest : Bytes) → (is_word base || is_entry base) ≡ true → IsEnd is_in_word rest → Chain (base_text base) rest (token.Base base ∷ [])
base_chain base rest h end = by_taken (is_taken base) refl
  where
    by_word : (w : Bool) → is_word base ≡ w → is_taken base ≡ false → Chain base rest (token.Base base ∷ [])
    by_word true w t = token_chain (token.Base base) (text.plain base (token.Base base) (record { all = word_run base w; ends = end }) (untaken_token base t w))
    by_word false w t = let e : is_entry base ≡ true = subst (λ (b : Bool). (b || is_entry base) ≡ true) w h in entry_chain base rest e end

    by_taken : (t : Bool) → is_taken base ≡ t → Chain (base_text base) rest (token.Base base ∷ [])
    by_taken true t = let k = taken_token base t in rw t (token_chain (token.Base base) (text.dollars base (token.Base base) (record { all = k.1; ends = end }) k.0))
    by_taken false t = rw t (by_word (is_word base) refl t)

not_zero : (n : ℕ) → eqb (suc n) 0 ≡ false
not_zero n = grind (arith, nat_tests)

counted_token : (n : ℕ) → suc n ≤ count_limit → count_token (decimal (suc n)) ≡ Some (token.Count (suc n))
unfolding count_token
counted_token n h = rw (decimal_number count_limit (suc n) h (omega arith), not_zero n) refl

count_chain : (n : ℕ) (rest : Bytes) → suc n ≤ count_limit → IsEnd is_in_word rest → Chain (39 ∷ decimal (suc n)) rest (token.Count (suc n) ∷ [])
count_chain n rest h end = token_chain (token.Count (suc n)) (text.count (decimal (suc n)) (token.Count (suc n)) (digits_run (suc n) rest (omega arith) end) (counted_token n h))

-- the text of a name has its tokens
pub name_chain : (base : Bytes) (count : ℕ) → has_name_text (record { base = base; count = count }) ≡ true
    → (n : NameText) × (sym_of n ≡ record { base = base; count = count }) × ((rest : Bytes) → IsEnd is_in_word rest → Chain (name_text (record { base = base; count = count })) rest (name_tokens n))
unfolding has_name_text name_text
name_chain base zero h =
    let both = and_both (is_word base || is_entry base) (leb 0 count_limit) h in
    (plain base, refl, λ rest end. subst (λ (z : Bytes). Chain z rest (token.Base base ∷ [])) (sym (append-nil (base_text base))) (base_chain base rest both.0 end))
name_chain base (suc n) h =
    let both = and_both (is_word base || is_entry base) (leb (suc n) count_limit) h in
    (counted base (suc n), refl, λ rest end. rw (not_zero n) (both_chains (base_chain base ((39 ∷ decimal (suc n)) ++ rest) both.0 refl) (count_chain n rest (leb-true _ _ both.1) end)))
