-- Cutting a text gives the tokens that it has.
use Rattle.std.proofs.Common.{◌≡◌, ℕ, zero, suc, ◌+◌, ◌≤◌, Bool, true, false, not, ◌&&◌, ◌||◌, cond, eqb, List, [], ◌∷◌, ◌++◌, length, take, drop, Option, Some, None, refl, sym, ap, ◌∙◌, subst, arith, inl, inr}
use Rattle.std.specs.Prelude.{⊤, slice_index, ◌==◌}
use Rattle.std.specs.List.{prefix_len, list_all}
use Rattle.std.proofs.lemmas.Bool.{eqb-true}
use Rattle.std.proofs.lemmas.Bool.Decides.{nat_tests}
use Rattle.std.proofs.lemmas.List.{take_at, drop_at, take-append-drop, length-append}
use Rattle.c_lang.specs.Names.{Bytes}
use Rattle.c_lexer.proofs.Cases.{chosen, by_test, by_option, and_both, or_false, not_true}
use Rattle.c_lexer.proofs.Runs.{run_again, run_is}
use Rattle.c_grammar.specs.Bytes.{is_white, is_in_line, is_in_word, IsRun}
use Rattle.formula_texts.specs.declared.token.Token.{Token}
use Rattle.formula_texts.specs.Tokens.{plain_token, dollar_token, count_token, pair_token, single_token, byte_token, number_in, IsToken, IsGap, AreTokens}
use Rattle.formula_texts.specs.Tokens as text
use Rattle.formula_texts.specs.Grammar.{◌>>=◌}
use Rattle.formula_texts.specs.Code.Lexing.{Cut, cut_by, mark_by, run_at, piece_by, piece_at, kept, lexed}
use Rattle.formula_texts.proofs.OperatorLaws.{bind_some}

-- ---- the first byte chooses

-- neither white space, nor in a word, nor `$` or `'`
is_mark : ℕ → Bool
is_mark byte = not (((is_white byte || is_in_word byte) || byte == 36) || byte == 39)

pair_marks : (byte next : ℕ) (t : Token) → pair_token byte next ≡ Some t → is_mark byte ≡ true
unfolding is_mark
pair_marks byte next t e = grind (arith, nat_tests, chosen)

byte_marks : (byte : ℕ) (t : Token) → byte_token byte ≡ Some t → is_mark byte ≡ true
unfolding is_mark
byte_marks byte t e = grind (arith, nat_tests, chosen)

dash : is_mark 45 ≡ true
unfolding is_mark
dash = refl

single_marks : (byte next : ℕ) (t : Token) → single_token byte next ≡ Some t → is_mark byte ≡ true
single_marks byte next t e =
    elim (chosen (eqb byte 45) _ (cond (eqb byte 47 && eqb next 47) None (byte_token byte)) (Some t) e) [
      | inl h ↦ subst (λ (b : ℕ). is_mark b ≡ true) (sym (eqb-true byte 45 h.0)) dash
      | inr h ↦ elim (chosen (eqb byte 47 && eqb next 47) None (byte_token byte) (Some t) h.1) [
        | inl i ↦ absurd (let f = i.1 in cc)
        | inr i ↦ byte_marks byte t i.1
      ]
    ]

no_comment : (byte next : ℕ) (t : Token) → single_token byte next ≡ Some t → (eqb byte 47 && eqb next 47) ≡ false
no_comment byte next t e = by_cases (eqb byte 47 && eqb next 47) refl
  where
    slashes : (b n : ℕ) → (eqb b 47 && eqb n 47) ≡ true → single_token b n ≡ None
    slashes b n h = let both = and_both (eqb b 47) (eqb n 47) h in rw (eqb-true b 47 both.0, eqb-true n 47 both.1) refl

    by_cases : (b : Bool) → (eqb byte 47 && eqb next 47) ≡ b → b ≡ false
    by_cases false h = refl
    by_cases true h = let f = slashes byte next h in absurd (let g = sym f ∙ e in cc)

no_pair_comment : (byte next : ℕ) (t : Token) → pair_token byte next ≡ Some t → (eqb byte 47 && eqb next 47) ≡ false
no_pair_comment byte next t e = grind (arith, nat_tests, chosen)

at_mark : (byte : ℕ) (rest : Bytes) → is_mark byte ≡ true → (eqb byte 47 && eqb (slice_index rest 0) 47) ≡ false → piece_by byte rest ≡ mark_by byte (slice_index rest 0) (pair_token byte (slice_index rest 0))
unfolding piece_by is_mark
at_mark byte rest m c =
    let last = or_false ((is_white byte || is_in_word byte) || eqb byte 36) (eqb byte 39) (not_true _ m) in
    let middle = or_false (is_white byte || is_in_word byte) (eqb byte 36) last.0 in
    let first = or_false (is_white byte) (is_in_word byte) middle.0 in
    rw (first.0, c, first.1, middle.1, last.1) refl

word_byte : (byte : ℕ) → is_in_word byte ≡ true → (is_white byte ≡ false) × (eqb byte 47 ≡ false)
word_byte byte h = (grind (arith, nat_tests), grind (arith, nat_tests))

at_run : (byte : ℕ) (rest : Bytes) → is_in_word byte ≡ true → piece_by byte rest ≡ run_at plain_token 0 (byte ∷ rest)
unfolding piece_by
at_run byte rest h = let w = word_byte byte h in rw (w.0, w.1, h) refl

at_dollar : (rest : Bytes) → piece_by 36 rest ≡ run_at dollar_token 1 rest
unfolding piece_by
at_dollar rest = refl

at_apostrophe : (rest : Bytes) → piece_by 39 rest ≡ run_at count_token 1 rest
unfolding piece_by
at_apostrophe rest = refl

-- ---- what a text has is cut

cut_size : (t : Token) (m n : ℕ) → m ≡ n → cut_by m (Some t) ≡ Some (Some t, n)
cut_size t m n e = ap (λ (k : ℕ). Some (Some t, k)) e

run_again_at : (what : Bytes → Option Token) (before : ℕ) (run rest : Bytes) (t : Token) → IsRun is_in_word run rest → what run ≡ Some t → run_at what before (run ++ rest) ≡ cut_by (before + length run) (Some t)
run_again_at what before run rest t r e = rw (run_again is_in_word run rest r, take_at run rest (length run) refl, e) refl

no_plain : (t : Token) → plain_token [] ≡ Some t → ⊥
unfolding plain_token number_in
no_plain t e = cc

plain_again : (run rest : Bytes) (t : Token) → IsRun is_in_word run rest → plain_token run ≡ Some t → piece_at (run ++ rest) ≡ Some (Some t, length run)
plain_again [] rest t r e = absurd (no_plain t e)
plain_again (byte ∷ run) rest t r e =
    let h = and_both (is_in_word byte) (list_all is_in_word run) r.all in
    at_run byte (run ++ rest) h.0 ∙ run_again_at plain_token 0 (byte ∷ run) rest t r e ∙ cut_size t (0 + length (byte ∷ run)) (length (byte ∷ run)) (omega arith)

pub token_again : (rest front : Bytes) (t : Token) → IsToken rest front t → piece_at (front ++ rest) ≡ Some (Some t, length front)
token_again rest front t (text.plain _ _ r e) = plain_again front rest t r e
token_again rest front t (text.dollars run _ r e) = at_dollar (run ++ rest) ∙ run_again_at dollar_token 1 run rest t r e ∙ cut_size t (1 + length run) (length (36 ∷ run)) (omega arith)
token_again rest front t (text.count run _ r e) = at_apostrophe (run ++ rest) ∙ run_again_at count_token 1 run rest t r e ∙ cut_size t (1 + length run) (length (39 ∷ run)) (omega arith)
token_again rest front t (text.pair byte next _ e) = at_mark byte (next ∷ rest) (pair_marks byte next t e) (no_pair_comment byte next t e) ∙ rw e refl
token_again rest front t (text.single byte _ none e) =
    at_mark byte rest (single_marks byte (slice_index rest 0) t e) (no_comment byte (slice_index rest 0) t e) ∙ rw (none, e) refl

gap_again : (rest front : Bytes) → IsGap rest front → piece_at (front ++ rest) ≡ Some (None, length front)
unfolding piece_by
gap_again rest front (text.white byte h) = rw h refl
gap_again rest front (text.comment body r) = rw (run_again is_in_line body rest r) (ap (λ (k : ℕ). Some (None, k)) (omega arith))

token_some : (rest front : Bytes) (t : Token) → IsToken rest front t → 1 ≤ length front
token_some rest [] t (text.plain _ _ r e) = absurd (no_plain t e)
token_some rest (byte ∷ front) t h = omega arith

gap_some : (rest front : Bytes) → IsGap rest front → 1 ≤ length front
gap_some rest front (text.white byte h) = omega arith
gap_some rest front (text.comment body r) = omega arith

one_more : (k : ℕ) (front rest : Bytes) (c : Option Token) (ts : List Token) → 1 ≤ length front → piece_at (front ++ rest) ≡ Some (c, length front) → length (front ++ rest) ≤ k
    → ((j : ℕ) → length rest ≤ j → lexed j rest ≡ Some ts) → lexed k (front ++ rest) ≡ Some (kept c ts)
unfolding lexed
one_more k [] rest c ts some e le later = let never : ⊥ = omega arith in absurd never
one_more zero (byte ∷ front) rest c ts some e le later = let never : ⊥ = omega arith in absurd never
one_more (suc k) (byte ∷ front) rest c ts some e le later =
    rw (e, drop_at (byte ∷ front) rest (length (byte ∷ front)) refl, later k (omega (arith, length-append front rest))) refl

pub lexed_again : (bytes : Bytes) (ts : List Token) → AreTokens bytes ts → (k : ℕ) → length bytes ≤ k → lexed k bytes ≡ Some ts
unfolding lexed
lexed_again bytes ts text.ends k le = refl
lexed_again bytes ts (text.skips front rest _ gap more) k le =
    one_more k front rest None ts (gap_some rest front gap) (gap_again rest front gap) le (λ j h. lexed_again rest ts more j h)
lexed_again bytes ts (text.goes front rest t us is more) k le =
    one_more k front rest (Some t) us (token_some rest front t is) (token_again rest front t is) le (λ j h. lexed_again rest us more j h)

-- ---- what is cut is what the text has

abbrev IsPiece : Bytes → Bytes → Option Token → Type 0
IsPiece rest front None = IsGap rest front
IsPiece rest front (Some t) = IsToken rest front t

-- the cut's text is at the front
abbrev Meets : Bytes → Option Cut → Type 0
Meets bytes None = ⊤
Meets bytes (Some cut) = IsPiece (drop cut.1 bytes) (take cut.1 bytes) cut.0

meets_comment : (byte : ℕ) (z : Bytes) → (eqb byte 47 && eqb (slice_index z 0) 47) ≡ true → Meets (byte ∷ z) (Some (None, prefix_len is_in_line (drop 1 z) + 2))
meets_comment byte [] h = let both = and_both (eqb byte 47) (eqb 0 47) h in absurd (let f = both.1 in cc)
meets_comment byte (next ∷ z) h =
    let both = and_both (eqb byte 47) (eqb next 47) h in
    let size : prefix_len is_in_line z + 2 ≡ suc (suc (prefix_len is_in_line z)) = omega arith in
    rw (eqb-true byte 47 both.0, eqb-true next 47 both.1, size) (text.comment (take (prefix_len is_in_line z) z) (run_is is_in_line z))

meets_plain : (byte : ℕ) (z : Bytes) → Meets (byte ∷ z) (run_at plain_token 0 (byte ∷ z))
meets_plain byte z =
    let n = prefix_len is_in_word (byte ∷ z) in
    let size : 0 + n ≡ n = omega arith in
    by_option (λ (o : Option Token). Meets (byte ∷ z) (cut_by (0 + n) o)) (plain_token (take n (byte ∷ z))) (λ none. tt)
    (λ t e. subst (λ (k : ℕ). IsToken (drop k (byte ∷ z)) (take k (byte ∷ z)) t) (sym size) (text.plain (take n (byte ∷ z)) t (run_is is_in_word (byte ∷ z)) e))

meets_dollar : (z : Bytes) → Meets (36 ∷ z) (run_at dollar_token 1 z)
meets_dollar z =
    let n = prefix_len is_in_word z in
    let size : 1 + n ≡ suc n = omega arith in
    by_option (λ (o : Option Token). Meets (36 ∷ z) (cut_by (1 + n) o)) (dollar_token (take n z)) (λ none. tt)
    (λ t e. subst (λ (k : ℕ). IsToken (drop k (36 ∷ z)) (take k (36 ∷ z)) t) (sym size) (text.dollars (take n z) t (run_is is_in_word z) e))

meets_count : (z : Bytes) → Meets (39 ∷ z) (run_at count_token 1 z)
meets_count z =
    let n = prefix_len is_in_word z in
    let size : 1 + n ≡ suc n = omega arith in
    by_option (λ (o : Option Token). Meets (39 ∷ z) (cut_by (1 + n) o)) (count_token (take n z)) (λ none. tt)
    (λ t e. subst (λ (k : ℕ). IsToken (drop k (39 ∷ z)) (take k (39 ∷ z)) t) (sym size) (text.count (take n z) t (run_is is_in_word z) e))

meets_single : (byte : ℕ) (z : Bytes) → pair_token byte (slice_index z 0) ≡ None → Meets (byte ∷ z) (cut_by 1 (single_token byte (slice_index z 0)))
meets_single byte z none =
    by_option (λ (o : Option Token). Meets (byte ∷ z) (cut_by 1 o)) (single_token byte (slice_index z 0)) (λ n. tt) (λ t e. text.single byte t none e)

meets_mark : (byte : ℕ) (z : Bytes) → Meets (byte ∷ z) (mark_by byte (slice_index z 0) (pair_token byte (slice_index z 0)))
meets_mark byte [] = meets_single byte [] refl
meets_mark byte (next ∷ z) =
    by_option (λ (o : Option Token). Meets (byte ∷ next ∷ z) (mark_by byte next o)) (pair_token byte next) (λ none. meets_single byte (next ∷ z) none) (λ t e. text.pair byte next t e)

meets : (byte : ℕ) (z : Bytes) → Meets (byte ∷ z) (piece_by byte z)
unfolding piece_by
meets byte z = by_test (Meets (byte ∷ z)) (is_white byte) _ _ (λ t. text.white byte t)
    (λ white. by_test (Meets (byte ∷ z)) (eqb byte 47 && eqb (slice_index z 0) 47) _ _ (λ t. meets_comment byte z t)
    (λ plain. by_test (Meets (byte ∷ z)) (is_in_word byte) _ _ (λ t. meets_plain byte z)
    (λ word. by_test (Meets (byte ∷ z)) (eqb byte 36) _ _ (λ t. rw (eqb-true byte 36 t) (meets_dollar z))
    (λ dollar. by_test (Meets (byte ∷ z)) (eqb byte 39) _ _ (λ t. rw (eqb-true byte 39 t) (meets_count z))
    (λ count. meets_mark byte z)))))

goes_on : (front rest : Bytes) (c : Option Token) (ts : List Token) → IsPiece rest front c → AreTokens rest ts → AreTokens (front ++ rest) (kept c ts)
goes_on front rest None ts is more = text.skips front rest ts is more
goes_on front rest (Some t) ts is more = text.goes front rest t ts is more

pub lexed_is : (k : ℕ) (bytes : Bytes) (ts : List Token) → lexed k bytes ≡ Some ts → AreTokens bytes ts
unfolding lexed
lexed_is k [] ts e = subst (AreTokens []) (let f = e in cc) text.ends
lexed_is zero (byte ∷ z) ts e = absurd cc
lexed_is (suc k) (byte ∷ z) ts e =
    let a = bind_some (piece_by byte z) (λ cut. lexed k (drop cut.1 (byte ∷ z)) >>= λ us. Some (kept cut.0 us)) ts e in
    let b = bind_some (lexed k (drop a.0.1 (byte ∷ z))) (λ us. Some (kept a.0.0 us)) ts a.2 in
    let is = subst (Meets (byte ∷ z)) a.1 (meets byte z) in
    let whole = goes_on (take a.0.1 (byte ∷ z)) (drop a.0.1 (byte ∷ z)) a.0.0 b.0 is (lexed_is k (drop a.0.1 (byte ∷ z)) b.0 b.1) in
    subst (AreTokens (byte ∷ z)) (some_is _ ts b.2) (subst (λ (y : Bytes). AreTokens y (kept a.0.0 b.0)) (take-append-drop a.0.1 (byte ∷ z)) whole)
  where
    some_is : (x y : List Token) → Some x ≡ Some y → x ≡ y
    some_is x y h = cc
