-- What a text is made of is read.
use Rattle.std.proofs.Common.{◌≡◌, ℕ, ◌≤◌, Bool, true, false, ◌||◌, cond, eqb, List, [], ◌∷◌, ◌++◌, length, Some, Ok, Err, refl, sym, ap, ◌∙◌, append_assoc, arith}
use Rattle.std.specs.Prelude.{slice_index}
use Rattle.std.specs.List.{list_all}
use Rattle.std.proofs.lemmas.List.{take_at, drop_at, length-append}
use Rattle.c_lang.specs.Names.{Bytes, is_digit, is_letter, is_word}
use Rattle.c_lang.specs.declared.unit.Unit.{Unit}
use Rattle.c_grammar.specs.Bytes.{is_white, is_in_line, is_in_word, is_in_number, IsRun}
use Rattle.c_grammar.specs.Words.{keyword_number, is_refused}
use Rattle.c_grammar.specs.Punctuators.{punctuator_number, IsLongest}
use Rattle.c_grammar.specs.Pieces.{begins_comment, IsNumber, IsPiece, white, block_comment, line_comment, include_line, position_line, number, keyword, identifier, punctuator}
use Rattle.c_grammar.specs.Lexed.{Cuts, ends, goes, place_behind, tokens_of}
use Rattle.c_lexer.specs.Code.Reading as spec
use Rattle.c_lexer.specs.Code.Reading.{piece_at, Outcome, kept, with_front, reading_from}
use Rattle.c_grammar.specs.declared.token.Token.{Token}
use Rattle.c_grammar.specs.declared.token.Word.TheVariants as w
use Rattle.c_grammar.specs.declared.piece.Piece.{Piece}
use Rattle.c_grammar.specs.declared.piece.Piece.TheVariants as piece
use Rattle.c_grammar.specs.declared.piece.Place.{Place}
use Rattle.c_lexer.proofs.Cases.{and_both, or_false, not_true}
use Rattle.c_lexer.proofs.Runs.{run_again, first_of_text, first_all, digit_not_white, letter_not_white, letter_not_digit}
use Rattle.c_lexer.proofs.Numbers.{number_again}
use Rattle.c_lexer.proofs.Comments.{closing_again}
use Rattle.c_lexer.proofs.PunctuatorLaws.{is_mark, first_is_mark, at_least_one, at_most_two, pair_is}
use Rattle.c_lexer.proofs.Directives.{include_again, include_first, position_first, no_include, in_unit_again}
use Rattle.c_lexer.proofs.Turns.{goes_on}

-- ---- the first byte chooses

pub at_number : (u : Unit) (fresh : Bool) (z : Bytes) → is_digit (slice_index z 0) ≡ true → piece_at u fresh z ≡ spec.number z
unfolding piece_at
at_number u fresh z digit = rw (digit_not_white (slice_index z 0) digit, digit) refl

pub at_word : (u : Unit) (fresh : Bool) (z : Bytes) → is_letter (slice_index z 0) ≡ true → piece_at u fresh z ≡ spec.word u z
unfolding piece_at
at_word u fresh z letter = rw (letter_not_white (slice_index z 0) letter, letter_not_digit (slice_index z 0) letter, letter) refl

pub at_hash : (u : Unit) (fresh : Bool) (z : Bytes) → slice_index z 0 ≡ 35 → piece_at u fresh z ≡ spec.directive u fresh z
unfolding piece_at
at_hash u fresh z hash = rw hash refl

pub at_mark : (u : Unit) (fresh : Bool) (byte : ℕ) (z : Bytes) → is_mark byte ≡ true → begins_comment (byte ∷ z) ≡ false → piece_at u fresh (byte ∷ z) ≡ spec.punctuator (byte ∷ z)
unfolding piece_at
at_mark u fresh byte z mark no_comment =
    let front = or_false (is_white byte || is_digit byte || is_letter byte) (eqb byte 35) (not_true _ mark) in
    let letter = or_false (is_white byte || is_digit byte) (is_letter byte) front.0 in
    let digit = or_false (is_white byte) (is_digit byte) letter.0 in
    rw (digit.0, digit.1, letter.1, front.1, no_comment) refl

-- ---- the pieces

pub number_piece : (text rest : Bytes) → IsRun is_in_number text rest → spec.number (text ++ rest) ≡ spec.number_by (spec.number_of text) (length text)
number_piece text rest run = rw (run_again is_in_number text rest run, take_at text rest (length text) refl) refl

pub number_first : (text : Bytes) (n : ℕ) → IsNumber text n → is_digit (slice_index text 0) ≡ true
number_first text n h = first_all is_digit text h.digits h.some

pub word_some : (text : Bytes) → is_word text ≡ true → 1 ≤ length text
word_some [] h = absurd cc
word_some (byte ∷ text) h = omega arith

pub word_first : (text : Bytes) → is_word text ≡ true → is_letter (slice_index text 0) ≡ true
word_first [] h = absurd cc
word_first (byte ∷ text) h = (and_both (is_letter byte) (list_all is_in_word text) h).0

word_piece : (u : Unit) (fresh : Bool) (text rest : Bytes) → is_word text ≡ true → IsRun is_in_word text rest → is_refused u text ≡ false → piece_at u fresh (text ++ rest) ≡ spec.word_by text (keyword_number text) (length text)
word_piece u fresh text rest is run free =
    at_word u fresh (text ++ rest) (ap is_letter (first_of_text text rest (word_some text is)) ∙ word_first text is)
    ∙ rw (run_again is_in_word text rest run, take_at text rest (length text) refl, free) refl

line_some : (line : Bytes) → slice_index line 0 ≡ 35 → 1 ≤ length line
line_some [] e = let never : ⊥ = omega arith in absurd never
line_some (byte ∷ line) e = omega arith

pub line_piece : (u : Unit) (fresh : Bool) (line rest : Bytes) → slice_index line 0 ≡ 35 → IsRun is_in_line line rest → fresh ≡ true
    → piece_at u fresh (line ++ rest) ≡ cond (spec.is_include line) (piece.Space, length line) (spec.directive_by (spec.position_in u line) (length line))
line_piece u fresh line rest hash run new =
    at_hash u fresh (line ++ rest) (first_of_text line rest (line_some line hash) ∙ hash)
    ∙ rw (new, run_again is_in_line line rest run, take_at line rest (length line) refl) refl

punctuator_piece : (u : Unit) (fresh : Bool) (text rest : Bytes) (k : ℕ) → punctuator_number text ≡ Some k → IsLongest text rest → begins_comment (text ++ rest) ≡ false → piece_at u fresh (text ++ rest) ≡ (piece.Token (w.Punct k), length text)
punctuator_piece u fresh [] rest k e longest uncommented = let never : ⊥ = omega (arith, at_least_one [] k e) in absurd never
punctuator_piece u fresh (byte ∷ []) [] k e longest uncommented = at_mark u fresh byte [] (first_is_mark (byte ∷ []) k e) uncommented ∙ rw e refl
punctuator_piece u fresh (byte ∷ []) (next ∷ rest) k e longest uncommented =
    at_mark u fresh byte (next ∷ rest) (first_is_mark (byte ∷ []) k e) uncommented ∙ rw (pair_is byte next, longest, e) refl
punctuator_piece u fresh (byte ∷ next ∷ []) rest k e longest uncommented =
    at_mark u fresh byte (next ∷ rest) (first_is_mark (byte ∷ next ∷ []) k e) uncommented ∙ rw (pair_is byte next, e) refl
punctuator_piece u fresh (byte ∷ next ∷ other ∷ text) rest k e longest uncommented = let never : ⊥ = omega (arith, at_most_two (byte ∷ next ∷ other ∷ text) k e) in absurd never

pub piece_again : (u : Unit) (fresh : Bool) (rest text : Bytes) (x : Piece) → IsPiece u fresh rest text x → piece_at u fresh (text ++ rest) ≡ (x, length text)
unfolding piece_at
piece_again u fresh rest text x (white byte h) = rw h refl
piece_again u fresh rest text x (block_comment body h) =
    rw (append_assoc body (42 ∷ 47 ∷ []) rest, closing_again 0 body rest h) (ap (λ (n : ℕ). (piece.Space, n)) (omega (arith, length-append body (42 ∷ 47 ∷ []))))
piece_again u fresh rest text x (line_comment body run) = rw (run_again is_in_line body rest run) (ap (λ (n : ℕ). (piece.Space, n)) (omega arith))
piece_again u fresh rest text x (include_line _ new run is) =
    line_piece u fresh text rest (include_first text is) run new ∙ rw (include_again text is) refl
piece_again u fresh rest text x (position_line _ p new merge run is) =
    line_piece u fresh text rest (position_first text p is) run new ∙ rw (no_include text p is, in_unit_again u text p merge is) refl
piece_again u fresh rest text x (number _ n run is) =
    at_number u fresh (text ++ rest) (ap is_digit (first_of_text text rest is.some) ∙ number_first text n is) ∙ number_piece text rest run ∙ rw (number_again text n is) refl
piece_again u fresh rest text x (keyword _ k run is free e) = word_piece u fresh text rest is run free ∙ rw e refl
piece_again u fresh rest text x (identifier _ run is free e) = word_piece u fresh text rest is run free ∙ rw e refl
piece_again u fresh rest text x (punctuator _ k e longest uncommented) = punctuator_piece u fresh text rest k e longest uncommented

pub piece_some : (u : Unit) (fresh : Bool) (rest text : Bytes) (x : Piece) → IsPiece u fresh rest text x → 1 ≤ length text
piece_some u fresh rest text x (white byte h) = omega arith
piece_some u fresh rest text x (block_comment body h) = omega arith
piece_some u fresh rest text x (line_comment body run) = omega arith
piece_some u fresh rest text x (include_line _ new run is) = line_some text (include_first text is)
piece_some u fresh rest text x (position_line _ p new merge run is) = line_some text (position_first text p is)
piece_some u fresh rest text x (number _ n run is) = is.some
piece_some u fresh rest text x (keyword _ k run is free e) = word_some text is
piece_some u fresh rest text x (identifier _ run is free e) = word_some text is
piece_some u fresh rest text x (punctuator _ k e longest uncommented) = at_least_one text k e

-- a piece is no fault
pub piece_kept : (u : Unit) (p : Place) (rest text : Bytes) (x : Piece) → IsPiece u p.fresh rest text x → kept p (x, length text) ≡ Ok (tokens_of p x text)
piece_kept u p rest text x (white byte h) = refl
piece_kept u p rest text x (block_comment body h) = refl
piece_kept u p rest text x (line_comment body run) = refl
piece_kept u p rest text x (include_line _ new run is) = refl
piece_kept u p rest text x (position_line _ q new merge run is) = refl
piece_kept u p rest text x (number _ n run is) = refl
piece_kept u p rest text x (keyword _ k run is free e) = refl
piece_kept u p rest text x (identifier _ run is free e) = refl
piece_kept u p rest text x (punctuator _ k e longest uncommented) = refl

pub no_front : (o : Outcome) → with_front [] o ≡ o
no_front (Ok tokens) = refl
no_front (Err why) = refl

-- a piece is read, and then what is place_behind it
pub piece_read : (u : Unit) (p : Place) (text rest : Bytes) (x : Piece) → IsPiece u p.fresh rest text x → reading_from u 0 p (text ++ rest) ≡ with_front (tokens_of p x text) (reading_from u 0 (place_behind p x text) rest)
piece_read u p text rest x is =
    let some = piece_some u p.fresh rest text x is in
    let step = goes_on u p (text ++ rest) [] (tokens_of p x text) (x, length text) (omega (arith, length-append text rest)) some (sym (piece_again u p.fresh rest text x is)) (no_front (kept p (x, length text)) ∙ piece_kept u p rest text x is) in
    sym (no_front (reading_from u 0 p (text ++ rest))) ∙ sym step ∙ rw (take_at text rest (length text) refl, drop_at text rest (length text) refl) refl

pub cuts_again : (u : Unit) (p : Place) (z : Bytes) (tokens : List Token) → Cuts u p z tokens → reading_from u 0 p z ≡ Ok tokens
unfolding reading_from
cuts_again u p z tokens (ends _) = refl
cuts_again u p z tokens (goes _ text rest x more is others) =
    piece_read u p text rest x is ∙ rw (cuts_again u (place_behind p x text) rest more others) refl
