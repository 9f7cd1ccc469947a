-- Cutting a text into tokens.
use Rattle.std.specs.Prelude.{ℕ, ◌==◌, ◌&&◌, if◌then◌else◌, false, List, [], ◌∷◌, take, drop, slice_index, Option, Some, None}
use Rattle.std.specs.List.{prefix_len}
use Rattle.c_lang.specs.Names.{Bytes}
use Rattle.c_grammar.specs.Bytes.{line_feed, slash, is_white, is_in_line, is_in_word}
use Rattle.formula_texts.specs.Tokens.{dollar}
use Rattle.formula_texts.specs.Grammar.{◌>>=◌}
use Rattle.hint_texts.specs.declared.token.Token.{Token}
use Rattle.hint_texts.specs.declared.token.Kind.{Kind}
use Rattle.hint_texts.specs.declared.token.Piece.{Piece}
use Rattle.hint_texts.specs.declared.token.Piece.TheVariants as piece
use Rattle.hint_texts.specs.Tokens.{plain_kind, cell_kind, pair_kind, byte_kind, placed}
use Rattle.hint_texts.specs.Code.Runs.{Step, parts_in}

-- a token, where there is one
abbrev pub found : Bytes → Option Kind → Option (Piece × Bytes)
found rest None = None
found rest (Some k) = Some (piece.Token k, rest)

abbrev pub run_at : (Bytes → Option Kind) → Bytes → Option (Piece × Bytes)
run_at what text = let n = prefix_len is_in_word text in found (drop n text) (what (take n text))

abbrev pub mark_by : ℕ → Bytes → Option Kind → Option (Piece × Bytes)
mark_by byte rest (Some k) = Some (piece.Token k, drop 1 rest)
mark_by byte rest None = found rest (byte_kind byte)

abbrev pub comment_at : Bytes → Option (Piece × Bytes)
comment_at body = Some (piece.Blank false, drop (prefix_len is_in_line body) body)

unfoldable pub piece_by : ℕ → Bytes → Option (Piece × Bytes)
piece_by byte rest =
    if is_white byte then Some (piece.Blank (byte == line_feed), rest) else
    (if byte == slash && slice_index rest 0 == slash then comment_at (drop 1 rest) else
    (if is_in_word byte then run_at plain_kind (byte ∷ rest) else
    (if byte == dollar then run_at cell_kind rest else mark_by byte rest (pair_kind byte (slice_index rest 0)))))

abbrev pub piece_at : Step ℕ Piece
piece_at [] = None
piece_at (byte ∷ rest) = piece_by byte rest

abbrev pub tokens_in : Bytes → Option (List Token)
tokens_in text = parts_in piece_at text >>= λ pieces. Some (placed 1 pieces)
