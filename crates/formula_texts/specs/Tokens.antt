-- The tokens of a text.
use Rattle.std.specs.Prelude.{◌≡◌, ℕ, pos, ◌^◌, Bool, true, not, ◌&&◌, ◌||◌, ◌==◌, nat_le, bytes_eq, if◌then◌else◌, List, [], ◌∷◌, ◌++◌, length, slice_index, Option, Some, None, codes}
use Rattle.std.specs.List.{list_all, list_any}
use Rattle.c_lang.specs.Names.{Bytes, is_digit, is_word}
use Rattle.c_grammar.specs.Bytes.{slash, is_white, is_in_line, is_in_word, IsRun}
use Rattle.c_grammar.specs.Pieces.{value}
use Rattle.formula_texts.specs.declared.token.Token.{Token}
use Rattle.formula_texts.specs.declared.token.Token.TheVariants as token
use Rattle.formula_texts.specs.declared.token.Operator.TheVariants as op
use Rattle.formula_texts.specs.declared.token.Mark.TheVariants as mark

-- ---- words and numbers

-- the largest number, and the largest count
abbrev pub number_limit : ℕ
number_limit = 2 ^ 100

abbrev pub count_limit : ℕ
count_limit = 4294967295

-- 0, or digits that don't begin with 0, of a number that is no larger than the limit
unfoldable pub number_in : ℕ → Bytes → Option ℕ
number_in limit [] = None
number_in limit (first ∷ rest) =
    if list_all is_digit (first ∷ rest) && (not (first == 48) || length rest == 0) && nat_le (value 0 (first ∷ rest)) limit
    then Some (value 0 (first ∷ rest)) else None

abbrev pub dollar : ℕ
dollar = 36

abbrev pub apostrophe : ℕ
apostrophe = 39

-- the words that are no names
abbrev pub is_taken : Bytes → Bool
is_taken word = list_any (bytes_eq word) (codes "and" ∷ codes "or" ∷ codes "not" ∷ codes "null" ∷ [])

-- the words that have a token of their own, with and without `$`
abbrev pub own_words : List (Bytes × Token)
own_words =
    (codes "and", token.Operator op.And) ∷ (codes "or", token.Operator op.Or)
    ∷ (codes "not", token.Not) ∷ (codes "null", token.Null) ∷ []

abbrev pub own_dollar_words : List (Bytes × Token)
own_dollar_words =
    (codes "true", token.True) ∷ (codes "false", token.False)
    ∷ (codes "truth", token.Truth) ∷ (codes "store", token.Store) ∷ []

abbrev pub found_in : List (Bytes × Token) → Bytes → Option Token
found_in [] word = None
found_in (entry ∷ entries) word = if bytes_eq word entry.0 then Some entry.1 else found_in entries word

abbrev pub or_else : Option Token → Option Token → Option Token
or_else (Some t) other = Some t
or_else None other = other

abbrev pub number_token : Option ℕ → Option Token
number_token (Some n) = Some (token.Number (pos n))
number_token None = None

-- a word, or a number
unfoldable pub plain_token : Bytes → Option Token
plain_token run = or_else (found_in own_words run) (if is_word run then Some (token.Base run) else number_token (number_in number_limit run))

abbrev pub entry_token : Bytes → Option ℕ → Option Token
entry_token run (Some n) = Some (token.Base (dollar ∷ run))
entry_token run None = None

-- What stands behind a `$`: a word with a token of its own; a taken word, which is then a name; or `r` or a
-- number, which are names with their `$`.
unfoldable pub dollar_token : Bytes → Option Token
dollar_token run =
    or_else (found_in own_dollar_words run)
    (if is_taken run then Some (token.Base run) else
    (if bytes_eq run (codes "r") then Some (token.Base (codes "$r")) else entry_token run (number_in number_limit run)))

abbrev pub count_by : Option ℕ → Option Token
count_by (Some n) = if n == 0 then None else Some (token.Count n)
count_by None = None

-- what stands behind a `'`: a number other than 0
unfoldable pub count_token : Bytes → Option Token
count_token run = count_by (number_in count_limit run)

-- ---- marks

-- the marks of two bytes
abbrev pub pair_token : ℕ → ℕ → Option Token
pair_token byte next =
    if next == 61 then
    (if byte == 60 then Some (token.Operator op.AtMost) else
    (if byte == 62 then Some (token.Operator op.AtLeast) else
    (if byte == 61 then Some (token.Operator op.Equal) else
    (if byte == 33 then Some (token.Operator op.Unequal) else None)))) else None

-- the marks of one byte that isn't a `-`
abbrev pub byte_token : ℕ → Option Token
byte_token byte =
    if byte == 40 then Some (token.Mark mark.RoundOpen) else
    (if byte == 41 then Some (token.Mark mark.RoundClose) else
    (if byte == 91 then Some (token.Mark mark.SquareOpen) else
    (if byte == 93 then Some (token.Mark mark.SquareClose) else
    (if byte == 44 then Some (token.Mark mark.Comma) else
    (if byte == 43 then Some (token.Operator op.Plus) else
    (if byte == 42 then Some (token.Operator op.Times) else
    (if byte == 47 then Some (token.Mark mark.Slash) else
    (if byte == 37 then Some (token.Mark mark.Percent) else
    (if byte == 60 then Some (token.Operator op.Less) else
    (if byte == 62 then Some (token.Operator op.Greater) else None))))))))))

-- a mark of one byte, where this one comes next
abbrev pub single_token : ℕ → ℕ → Option Token
single_token byte next =
    if byte == 45 then Some (token.Operator (if is_digit next then op.TightMinus else op.Minus)) else
    (if byte == slash && next == slash then None else byte_token byte)

-- ---- the whole text

-- Where rest follows it, the text is this token. Each is as long as it can be.
pub data IsToken (rest : Bytes) : Bytes → Token → Type 0 where
  plain : (run : Bytes) (t : Token) → IsRun is_in_word run rest → plain_token run ≡ Some t → IsToken rest run t
  dollars : (run : Bytes) (t : Token) → IsRun is_in_word run rest → dollar_token run ≡ Some t → IsToken rest (dollar ∷ run) t
  count : (run : Bytes) (t : Token) → IsRun is_in_word run rest → count_token run ≡ Some t → IsToken rest (apostrophe ∷ run) t
  pair : (byte next : ℕ) (t : Token) → pair_token byte next ≡ Some t → IsToken rest (byte ∷ next ∷ []) t
  single : (byte : ℕ) (t : Token)
      → pair_token byte (slice_index rest 0) ≡ None
      → single_token byte (slice_index rest 0) ≡ Some t
      → IsToken rest (byte ∷ []) t

-- white space, or a comment up to the line's end
pub data IsGap (rest : Bytes) : Bytes → Type 0 where
  white : (byte : ℕ) → is_white byte ≡ true → IsGap rest (byte ∷ [])
  comment : (body : Bytes) → IsRun is_in_line body rest → IsGap rest (slash ∷ slash ∷ body)

-- the text is a row of gaps and tokens, and these are its tokens
pub data AreTokens : Bytes → List Token → Type 0 where
  ends : AreTokens [] []
  skips : (text rest : Bytes) (tokens : List Token) → IsGap rest text → AreTokens rest tokens → AreTokens (text ++ rest) tokens
  goes : (text rest : Bytes) (t : Token) (tokens : List Token)
      → IsToken rest text t → AreTokens rest tokens → AreTokens (text ++ rest) (t ∷ tokens)
