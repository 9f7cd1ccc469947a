-- Cutting a text gives the pieces that it has.
use Rattle.std.proofs.Common.{◌≡◌, ℕ, ◌≤◌, Bool, true, false, not, ◌&&◌, ◌||◌, eqb, [], ◌∷◌, ◌++◌, length, take, drop, Option, Some, None, refl, sym, ap, ◌∙◌, subst, arith}
use Rattle.std.specs.Prelude.{⊤, slice_index, ◌==◌}
use Rattle.std.specs.List.{prefix_len, list_all}
use Rattle.std.proofs.lemmas.Bool.{eqb-true}
use Rattle.std.proofs.lemmas.Bool.Decides.{nat_tests}
use Rattle.std.proofs.lemmas.List.{take_at, drop_at, take-append-drop}
use Rattle.c_lang.specs.Names.{Bytes}
use Rattle.c_lexer.proofs.Cases.{chosen, by_test, by_option, and_both, or_false, not_true}
use Rattle.c_lexer.proofs.Runs.{run_again, run_is}
use Rattle.c_grammar.specs.Bytes.{is_white, is_in_line, is_in_word, IsRun}
use Rattle.formula_texts.specs.Tokens.{number_in}
use Rattle.hint_texts.specs.declared.token.Kind.{Kind}
use Rattle.hint_texts.specs.declared.token.Piece.{Piece}
use Rattle.hint_texts.specs.declared.token.Piece.TheVariants as piece
use Rattle.hint_texts.specs.Tokens.{plain_kind, cell_kind, pair_kind, byte_kind, IsPiece}
use Rattle.hint_texts.specs.Tokens as text
use Rattle.hint_texts.specs.Code.Lexing.{found, mark_by, run_at, piece_by, piece_at}
use Rattle.hint_texts.proofs.PartLaws.{IsRead, Again, Sound}

-- ---- the first byte chooses

-- neither white space, nor in a word, nor `$`
is_mark : ℕ → Bool
is_mark byte = not ((is_white byte || is_in_word byte) || byte == 36)

pair_marks : (byte next : ℕ) (k : Kind) → pair_kind byte next ≡ Some k → (is_mark byte ≡ true) × (eqb byte 47 ≡ false)
unfolding is_mark
pair_marks byte next k e = (grind (arith, nat_tests, chosen), grind (arith, nat_tests, chosen))

byte_marks : (byte : ℕ) (k : Kind) → byte_kind byte ≡ Some k → (is_mark byte ≡ true) × (eqb byte 47 ≡ false)
unfolding is_mark
byte_marks byte k e = (grind (arith, nat_tests, chosen), grind (arith, nat_tests, chosen))

at_mark : (byte : ℕ) (rest : Bytes) → (is_mark byte ≡ true) × (eqb byte 47 ≡ false) → piece_by byte rest ≡ mark_by byte rest (pair_kind byte (slice_index rest 0))
unfolding piece_by is_mark
at_mark byte rest (m, c) =
    let middle = or_false (is_white byte || is_in_word byte) (eqb byte 36) (not_true _ m) in
    let first = or_false (is_white byte) (is_in_word byte) middle.0 in
    rw (first.0, c, first.1, middle.1) refl

word_byte : (byte : ℕ) → is_in_word byte ≡ true → (is_white byte ≡ false) × (eqb byte 47 ≡ false)
word_byte byte h = (grind (arith, nat_tests), grind (arith, nat_tests))

at_run : (byte : ℕ) (rest : Bytes) → is_in_word byte ≡ true → piece_by byte rest ≡ run_at plain_kind (byte ∷ rest)
unfolding piece_by
at_run byte rest h = let w = word_byte byte h in rw (w.0, w.1, h) refl

at_dollar : (rest : Bytes) → piece_by 36 rest ≡ run_at cell_kind rest
unfolding piece_by
at_dollar rest = refl

-- ---- what a text has is cut

run_again_at : (what : Bytes → Option Kind) (run rest : Bytes) (k : Kind) → IsRun is_in_word run rest → what run ≡ Some k → run_at what (run ++ rest) ≡ Some (piece.Token k, rest)
run_again_at what run rest k r e = rw (run_again is_in_word run rest r, take_at run rest (length run) refl, drop_at run rest (length run) refl, e) refl

no_plain : (k : Kind) → plain_kind [] ≡ Some k → ⊥
unfolding plain_kind number_in
no_plain k e = cc

plain_again : (run rest : Bytes) (k : Kind) → IsRun is_in_word run rest → plain_kind run ≡ Some k → (1 ≤ length run) × (piece_at (run ++ rest) ≡ Some (piece.Token k, rest))
plain_again [] rest k r e = absurd (no_plain k e)
plain_again (byte ∷ run) rest k r e =
    let h = and_both (is_in_word byte) (list_all is_in_word run) r.all in
    (omega arith, at_run byte (run ++ rest) h.0 ∙ run_again_at plain_kind (byte ∷ run) rest k r e)

comment_again : (body rest : Bytes) → IsRun is_in_line body rest → piece_at (47 ∷ 47 ∷ (body ++ rest)) ≡ Some (piece.Blank false, rest)
unfolding piece_by
comment_again body rest r = rw (run_again is_in_line body rest r, drop_at body rest (length body) refl) refl

pub pieces_again : Again IsPiece piece_at
unfolding piece_by
pieces_again rest front p (text.white byte h) = (omega arith, rw h refl)
pieces_again rest front p (text.comment body r) = (omega arith, comment_again body rest r)
pieces_again rest front p (text.plain _ k r e) = plain_again front rest k r e
pieces_again rest front p (text.cell run k r e) = (omega arith, at_dollar (run ++ rest) ∙ run_again_at cell_kind run rest k r e)
pieces_again rest front p (text.pair byte next k e) = (omega arith, at_mark byte (next ∷ rest) (pair_marks byte next k e) ∙ rw e refl)
pieces_again rest front p (text.single byte k none e) = (omega arith, at_mark byte rest (byte_marks byte k e) ∙ rw (none, e) refl)

-- ---- what is cut is what the text has

-- the piece is at the front
abbrev Meets : Bytes → Option (Piece × Bytes) → Type 0
Meets bytes None = ⊤
Meets bytes (Some x) = IsRead IsPiece bytes x.0 x.1

split_at : (n : ℕ) (z : Bytes) → z ≡ take n z ++ drop n z
split_at n z = sym (take-append-drop n z)

meets_comment : (byte : ℕ) (z : Bytes) → (eqb byte 47 && eqb (slice_index z 0) 47) ≡ true → Meets (byte ∷ z) (Some (piece.Blank false, drop (prefix_len is_in_line (drop 1 z)) (drop 1 z)))
meets_comment byte [] h = let both = and_both (eqb byte 47) (eqb 0 47) h in absurd (let f = both.1 in cc)
meets_comment byte (next ∷ z) h =
    let both = and_both (eqb byte 47) (eqb next 47) h in
    let n = prefix_len is_in_line z in
    rw (eqb-true byte 47 both.0, eqb-true next 47 both.1)
    (record { front = 47 ∷ 47 ∷ take n z; splits = ap (λ (y : Bytes). 47 ∷ 47 ∷ y) (split_at n z); is = text.comment (take n z) (run_is is_in_line z) })

meets_plain : (z : Bytes) → Meets z (run_at plain_kind z)
meets_plain z =
    let n = prefix_len is_in_word z in
    by_option (λ (o : Option Kind). Meets z (found (drop n z) o)) (plain_kind (take n z)) (λ none. tt)
    (λ k e. record { front = take n z; splits = split_at n z; is = text.plain (take n z) k (run_is is_in_word z) e })

meets_cell : (z : Bytes) → Meets (36 ∷ z) (run_at cell_kind z)
meets_cell z =
    let n = prefix_len is_in_word z in
    by_option (λ (o : Option Kind). Meets (36 ∷ z) (found (drop n z) o)) (cell_kind (take n z)) (λ none. tt)
    (λ k e. record { front = 36 ∷ take n z; splits = ap (λ (y : Bytes). 36 ∷ y) (split_at n z); is = text.cell (take n z) k (run_is is_in_word z) e })

meets_single : (byte : ℕ) (z : Bytes) → pair_kind byte (slice_index z 0) ≡ None → Meets (byte ∷ z) (found z (byte_kind byte))
meets_single byte z none =
    by_option (λ (o : Option Kind). Meets (byte ∷ z) (found z o)) (byte_kind byte) (λ n. tt) (λ k e. record { front = byte ∷ []; splits = refl; is = text.single byte k none e })

meets_mark : (byte : ℕ) (z : Bytes) → Meets (byte ∷ z) (mark_by byte z (pair_kind byte (slice_index z 0)))
meets_mark byte [] = by_option (λ (o : Option Kind). pair_kind byte 0 ≡ o → Meets (byte ∷ []) (mark_by byte [] o)) (pair_kind byte 0) (λ none e. meets_single byte [] none) (λ k e f. absurd (no_pair byte k e)) refl
  where
    no_pair : (b : ℕ) (k : Kind) → pair_kind b 0 ≡ Some k → ⊥
    no_pair b k e = grind (arith, nat_tests, chosen)
meets_mark byte (next ∷ z) =
    by_option (λ (o : Option Kind). Meets (byte ∷ next ∷ z) (mark_by byte (next ∷ z) o)) (pair_kind byte next) (λ none. meets_single byte (next ∷ z) none)
    (λ k e. record { front = byte ∷ next ∷ []; splits = refl; is = text.pair byte next k e })

meets : (byte : ℕ) (z : Bytes) → Meets (byte ∷ z) (piece_by byte z)
unfolding piece_by
meets byte z = by_test (Meets (byte ∷ z)) (is_white byte) _ _ (λ t. record { front = byte ∷ []; splits = refl; is = text.white byte t })
    (λ white. by_test (Meets (byte ∷ z)) (eqb byte 47 && eqb (slice_index z 0) 47) _ _ (λ t. meets_comment byte z t)
    (λ slash. by_test (Meets (byte ∷ z)) (is_in_word byte) _ _ (λ t. meets_plain (byte ∷ z))
    (λ word. by_test (Meets (byte ∷ z)) (eqb byte 36) _ _ (λ t. rw (eqb-true byte 36 t) (meets_cell z))
    (λ dollar. meets_mark byte z))))

pub pieces_are : Sound IsPiece piece_at
pieces_are [] rest p e = absurd cc
pieces_are (byte ∷ z) rest p e = subst (Meets (byte ∷ z)) e (meets byte z)
