-- The tokens of a hints text, with their lines.
use Rattle.std.specs.Prelude.{◌≡◌, ℕ, pos, ◌+◌, true, false, ◌==◌, ◌&&◌, bytes_eq, if◌then◌else◌, List, [], ◌∷◌, ◌++◌, slice_index, Option, Some, None, codes}
use Rattle.std.specs.Option.{option_map}
use Rattle.c_lang.specs.Names.{Bytes, is_word}
use Rattle.c_grammar.specs.Bytes.{line_feed, slash, is_white, is_in_line, is_in_word, IsRun}
use Rattle.formula_texts.specs.Tokens.{number_in, dollar, own_words, found_in}
use Rattle.formula_texts.specs.Tokens as formula
use Rattle.formula_texts.specs.declared.token.Token.{Token as FormulaToken}
use Rattle.formula_texts.specs.declared.token.Token.TheVariants as token
use Rattle.formula_texts.specs.declared.token.Operator.TheVariants as op
use Rattle.formula_texts.specs.declared.token.Mark.TheVariants as mark
use Rattle.hint_texts.specs.declared.token.Token.{Token}
use Rattle.hint_texts.specs.declared.token.Kind.{Kind}
use Rattle.hint_texts.specs.declared.token.Kind.TheVariants as kind
use Rattle.hint_texts.specs.declared.token.Closing.TheVariants as closing
use Rattle.hint_texts.specs.declared.token.Piece.{Piece}
use Rattle.hint_texts.specs.declared.token.Piece.TheVariants as piece

-- ---- words and numbers

abbrev pub number_limit : ℕ
number_limit = 2147483647

abbrev pub number_kind : Bytes → Option Kind
number_kind run = option_map (λ n. kind.Part (token.Number (pos n))) (number_in number_limit run)

abbrev pub word_kind : Bytes → Option Kind
word_kind run = if is_word run then Some (kind.Name run) else number_kind run

abbrev pub own_or : Option FormulaToken → Option Kind → Option Kind
own_or (Some t) other = Some (kind.Part t)
own_or None other = other

-- `and`, `or`, `not` and `null`, any other word, or a number
unfoldable pub plain_kind : Bytes → Option Kind
plain_kind run = own_or (found_in own_words run) (word_kind run)

-- what stands behind a `$`: `r`, or a number
unfoldable pub cell_kind : Bytes → Option Kind
cell_kind run =
    if bytes_eq run (codes "r") then Some (kind.Cell (codes "$r"))
    else option_map (λ n. kind.Cell (dollar ∷ run)) (number_in number_limit run)

-- ---- marks

-- the marks of two bytes
abbrev pub pair_kind : ℕ → ℕ → Option Kind
pair_kind byte next =
    if byte == 46 && next == 46 then Some (kind.Closing closing.Range)
    else option_map (λ t. kind.Part t) (formula.pair_token byte next)

-- the marks of one byte
abbrev pub byte_kind : ℕ → Option Kind
byte_kind byte =
    if byte == 40 then Some (kind.Part (token.Mark mark.RoundOpen)) else
    (if byte == 41 then Some (kind.Part (token.Mark mark.RoundClose)) else
    (if byte == 91 then Some (kind.Part (token.Mark mark.SquareOpen)) else
    (if byte == 93 then Some (kind.Part (token.Mark mark.SquareClose)) else
    (if byte == 44 then Some (kind.Part (token.Mark mark.Comma)) else
    (if byte == 43 then Some (kind.Part (token.Operator op.Plus)) else
    (if byte == 45 then Some (kind.Part (token.Operator op.Minus)) else
    (if byte == 42 then Some (kind.Part (token.Operator op.Times)) else
    (if byte == 60 then Some (kind.Part (token.Operator op.Less)) else
    (if byte == 62 then Some (kind.Part (token.Operator op.Greater)) else
    (if byte == 38 then Some kind.Function else
    (if byte == 59 then Some (kind.Closing closing.Semicolon) else
    (if byte == 58 then Some (kind.Closing closing.Colon) else None))))))))))))

-- ---- the whole text

-- Where rest follows it, the text is this piece. Each is as long as it can be.
pub data IsPiece (rest : Bytes) : Bytes → Piece → Type 0 where
  white : (byte : ℕ) → is_white byte ≡ true → IsPiece rest (byte ∷ []) (piece.Blank (byte == line_feed))
  comment : (body : Bytes) → IsRun is_in_line body rest → IsPiece rest (slash ∷ slash ∷ body) (piece.Blank false)
  plain : (run : Bytes) (k : Kind) → IsRun is_in_word run rest → plain_kind run ≡ Some k → IsPiece rest run (piece.Token k)
  cell : (run : Bytes) (k : Kind) → IsRun is_in_word run rest → cell_kind run ≡ Some k → IsPiece rest (dollar ∷ run) (piece.Token k)
  pair : (byte next : ℕ) (k : Kind) → pair_kind byte next ≡ Some k → IsPiece rest (byte ∷ next ∷ []) (piece.Token k)
  single : (byte : ℕ) (k : Kind) → pair_kind byte (slice_index rest 0) ≡ None → byte_kind byte ≡ Some k → IsPiece rest (byte ∷ []) (piece.Token k)

-- the line behind a piece
abbrev pub line_after : ℕ → Piece → ℕ
line_after line (piece.Blank ends) = if ends then line + 1 else line
line_after line (piece.Token k) = line

abbrev pub tokens_at : ℕ → Piece → List Token
tokens_at line (piece.Blank ends) = []
tokens_at line (piece.Token k) = record { kind = k; line = line } ∷ []

-- the tokens of a row of pieces that begins on this line
abbrev pub placed : ℕ → List Piece → List Token
placed line [] = []
placed line (p ∷ ps) = tokens_at line p ++ placed (line_after line p) ps
