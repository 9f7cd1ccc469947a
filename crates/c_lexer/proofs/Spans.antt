-- The tokens' spans are in order, and each token is what its slice says.
use Rattle.std.proofs.Common.{◌≡◌, ℕ, ◌+◌, ◌-◌, ◌≤◌, Bool, List, [], ◌∷◌, ◌++◌, length, refl, sym, ap, subst, ◌∙◌, append_assoc, arith}
use Rattle.std.specs.Prelude.{⊤, slice_range}
use Rattle.std.proofs.lemmas.List.{take_at, drop_at, length-append}
use Rattle.c_lang.specs.Names.{Bytes}
use Rattle.c_lang.specs.declared.unit.Unit.{Unit}
use Rattle.c_grammar.specs.Pieces as text
use Rattle.c_grammar.specs.Pieces.{IsPiece}
use Rattle.c_grammar.specs.Lexed as whole
use Rattle.c_grammar.specs.Lexed.{after_byte, after_bytes, turned, place_behind, token, tokens_of, Cuts, Says, AreSpans}
use Rattle.c_grammar.specs.declared.token.Token.{Token}
use Rattle.c_grammar.specs.declared.piece.Piece.{Piece}
use Rattle.c_grammar.specs.declared.piece.Piece.TheVariants as piece
use Rattle.c_grammar.specs.declared.piece.Place.{Place}
use Rattle.c_lexer.proofs.Complete.{piece_some}

after_bytes_offset : (p : Place) (bytes : Bytes) → (after_bytes p bytes).offset ≡ p.offset + length bytes
after_bytes_offset p [] = omega arith
after_bytes_offset p (byte ∷ bytes) = omega (arith, after_bytes_offset (after_byte p byte) bytes)

turned_offset : (p : Place) (x : Piece) → (turned p x).offset ≡ p.offset
turned_offset p piece.Space = refl
turned_offset p (piece.Token what) = refl
turned_offset p (piece.Position given) = refl
turned_offset p (piece.Fault why) = refl

spans_before : (bytes : Bytes) (from lower : ℕ) (tokens : List Token) → lower ≤ from → AreSpans bytes from tokens → AreSpans bytes lower tokens
spans_before bytes from lower [] le h = omega arith
spans_before bytes from lower (t ∷ tokens) le h = (omega (arith, h.0), h.1, h.2, h.3)

-- what the text of a piece says, if it is a token
abbrev PieceSays : Bytes → Piece → Type 0
PieceSays text (piece.Token what) = Says text what
PieceSays text piece.Space = ⊤
PieceSays text (piece.Position given) = ⊤
PieceSays text (piece.Fault why) = ⊤

piece_says : (u : Unit) (fresh : Bool) (rest front : Bytes) (x : Piece) → IsPiece u fresh rest front x → PieceSays front x
piece_says u fresh rest front x (text.white byte h) = tt
piece_says u fresh rest front x (text.block_comment body h) = tt
piece_says u fresh rest front x (text.line_comment body run) = tt
piece_says u fresh rest front x (text.include_line _ new run is) = tt
piece_says u fresh rest front x (text.position_line _ p new merge run is) = tt
piece_says u fresh rest front x (text.number _ n run is) = (n, is, refl)
piece_says u fresh rest front x (text.keyword _ k run is free e) = e
piece_says u fresh rest front x (text.identifier _ run is free e) = refl
piece_says u fresh rest front x (text.punctuator _ k e longest plain) = e

slice_is : (before front rest bytes : Bytes) (from : ℕ) → before ++ (front ++ rest) ≡ bytes → from ≡ length before → slice_range bytes from (from + length front) ≡ front
slice_is before front rest bytes from parts e =
    let size : from + length front - from ≡ length front = omega arith in
    subst (λ (y : Bytes). slice_range y from (from + length front) ≡ front) parts
    (rw (size, drop_at before (front ++ rest) from (sym e), take_at front rest (length front) refl) refl)

spans_more : (bytes front : Bytes) (p : Place) (x : Piece) (from : ℕ) (tokens : List Token) → PieceSays (slice_range bytes p.offset (p.offset + length front)) x → 1 ≤ length front → from ≡ p.offset + length front → AreSpans bytes from tokens → AreSpans bytes p.offset (tokens_of p x front ++ tokens)
spans_more bytes front p piece.Space from tokens says some e h = spans_before bytes from p.offset tokens (omega arith) h
spans_more bytes front p (piece.Position given) from tokens says some e h = spans_before bytes from p.offset tokens (omega arith) h
spans_more bytes front p (piece.Fault why) from tokens says some e h = spans_before bytes from p.offset tokens (omega arith) h
spans_more bytes front p (piece.Token what) from tokens says some e h =
    (omega arith, omega arith, says, subst (λ (at : ℕ). AreSpans bytes at tokens) e h)

spans_from : (u : Unit) (bytes before z : Bytes) (p : Place) (tokens : List Token) → before ++ z ≡ bytes → p.offset ≡ length before → Cuts u p z tokens → AreSpans bytes p.offset tokens
spans_from u bytes before z p tokens parts at (whole.ends _) = omega (arith, at, length-append before z, ap length parts)
spans_from u bytes before z p tokens parts at (whole.goes _ front rest x more is others) =
    let q = place_behind p x front in
    let offset : q.offset ≡ p.offset + length front = omega (arith, after_bytes_offset (turned p x) front, turned_offset p x) in
    let later = spans_from u bytes (before ++ front) rest q more (append_assoc before front rest ∙ parts) (omega (arith, length-append before front)) others in
    let says = subst (λ (y : Bytes). PieceSays y x) (sym (slice_is before front rest bytes p.offset parts at)) (piece_says u p.fresh rest front x is) in
    spans_more bytes front p x q.offset more says (piece_some u p.fresh rest front x is) offset later

pub spans : (u : Unit) (bytes : Bytes) (tokens : List Token) → whole.Lexed u bytes tokens → AreSpans bytes 0 tokens
spans u bytes tokens is = spans_from u bytes [] bytes (whole.first_place u) tokens refl refl is
