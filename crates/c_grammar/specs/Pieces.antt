-- What stands at the front of a text: white space, a comment, a directive, a token, or a fault.
-- Each piece is as long as it can be, so its conditions also speak of the rest behind it.
use Rattle.std.specs.Prelude.{◌≡◌, ◌≢◌, ℕ, ◌+◌, ◌-◌, ◌*◌, ◌<◌, ◌≤◌, pos, Bool, true, false, ◌&&◌, ◌||◌, ◌==◌, [], ◌∷◌, ◌++◌, length, slice_index, Some, None, codes}
use Rattle.std.specs.List.{list_all}
use Rattle.c_lang.specs.Names.{Bytes, is_digit, is_word}
use Rattle.c_lang.specs.Refusals as refusal
use Rattle.c_lang.specs.Units.{word, FitsNumber, IsPosition}
use Rattle.c_lang.specs.declared.unit.Unit.{Unit}
use Rattle.c_lang.specs.declared.unit.Unit.TheVariants.{Merge}
use Rattle.c_lang.specs.declared.unit.Pos.{Pos}
use Rattle.c_grammar.specs.Bytes.{quote, hash, star, slash, is_white, is_space, is_blank, is_in_line, is_in_word, is_in_number, IsEnd, IsRun}
use Rattle.c_grammar.specs.Words.{keyword_number, is_refused}
use Rattle.c_grammar.specs.Punctuators.{punctuator_number, IsLongest}
use Rattle.c_grammar.specs.declared.token.Word.TheVariants.{Key, Ident, Number, Punct}
use Rattle.c_grammar.specs.declared.piece.Piece.{Piece}
use Rattle.c_grammar.specs.declared.piece.Piece.TheVariants.{Space, Token, Position}
use Rattle.c_grammar.specs.declared.piece.Fault.{Fault}
use Rattle.c_grammar.specs.declared.piece.Fault.TheVariants.{BadByte, BadNumber, Directive, Reserved, OpenComment}

-- the number whose digits begin with those of `front`
abbrev pub value : ℕ → Bytes → ℕ
value front [] = front
value front (byte ∷ bytes) = value (front * 10 + (byte - 48)) bytes

-- 0, or digits that don't begin with 0, and of no larger value than a number may have
pub record IsNumber (text : Bytes) (n : ℕ) : Type 0 where
  pub some : 1 ≤ length text
  pub digits : list_all is_digit text ≡ true
  pub plain : 1 < length text → slice_index text 0 ≢ 48
  pub value_is : value 0 text ≡ n
  pub fits : FitsNumber n

-- `*/` stands in these bytes
abbrev pub has_close : Bytes → Bool
has_close [] = false
has_close (byte ∷ rest) = (byte == star && slice_index rest 0 == slash) || has_close rest

-- these bytes begin with `/*` or `//`
abbrev pub begins_comment : Bytes → Bool
begins_comment bytes = slice_index bytes 0 == slash && (slice_index bytes 1 == star || slice_index bytes 1 == slash)

-- a line from its `#` on: spaces and tabs, the word `include`, and anything behind it
pub record IsInclude (line : Bytes) : Type 0 where
  pub blanks : Bytes
  pub more : Bytes
  pub parts : hash ∷ (blanks ++ (codes "include" ++ more)) ≡ line
  pub blank : list_all is_blank blanks ≡ true
  pub ends : IsEnd is_in_word more

-- one or more spaces
pub record IsGap (text : Bytes) : Type 0 where
  pub some : 1 ≤ length text
  pub spaces : list_all is_space text ≡ true

abbrev pub quoted : Unit → Bytes
quoted unit = quote ∷ (word unit ++ quote ∷ [])

-- a line from its `#` on: `#line`, a gap, a number, a gap, a unit in quotes, and nothing behind it
pub record SetsPosition (line : Bytes) (p : Pos) : Type 0 where
  pub before : Bytes
  pub number : Bytes
  pub between : Bytes
  pub parts : codes "#line" ++ (before ++ (number ++ (between ++ quoted p.unit))) ≡ line
  pub gap_before : IsGap before
  pub number_is : IsNumber number p.line
  pub gap_between : IsGap between
  pub can_be : IsPosition p

-- Where rest follows it, the text is this piece. `fresh` says that only spaces and tabs stand
-- before it on its line.
pub data IsPiece (unit : Unit) (fresh : Bool) (rest : Bytes) : Bytes → Piece → Type 0 where
  white : (byte : ℕ)
      → is_white byte ≡ true
      → IsPiece unit fresh rest (byte ∷ []) Space
  -- `/*` up to the first `*/`
  block_comment : (body : Bytes)
      → has_close (body ++ star ∷ []) ≡ false
      → IsPiece unit fresh rest (slash ∷ star ∷ (body ++ star ∷ slash ∷ [])) Space
  -- `//` up to the line's end
  line_comment : (body : Bytes)
      → IsRun is_in_line body rest
      → IsPiece unit fresh rest (slash ∷ slash ∷ body) Space
  include_line : (line : Bytes)
      → fresh ≡ true
      → IsRun is_in_line line rest
      → IsInclude line
      → IsPiece unit fresh rest line Space
  position_line : (line : Bytes) (p : Pos)
      → fresh ≡ true
      → unit ≡ Merge
      → IsRun is_in_line line rest
      → SetsPosition line p
      → IsPiece unit fresh rest line (Position p)
  number : (text : Bytes) (n : ℕ)
      → IsRun is_in_number text rest
      → IsNumber text n
      → IsPiece unit fresh rest text (Token (Number (pos n)))
  keyword : (text : Bytes) (k : ℕ)
      → IsRun is_in_word text rest
      → is_word text ≡ true
      → is_refused unit text ≡ false
      → keyword_number text ≡ Some k
      → IsPiece unit fresh rest text (Token (Key k))
  identifier : (text : Bytes)
      → IsRun is_in_word text rest
      → is_word text ≡ true
      → is_refused unit text ≡ false
      → keyword_number text ≡ None
      → IsPiece unit fresh rest text (Token (Ident text))
  punctuator : (text : Bytes) (k : ℕ)
      → punctuator_number text ≡ Some k
      → IsLongest text rest
      → begins_comment (text ++ rest) ≡ false
      → IsPiece unit fresh rest text (Token (Punct k))

-- These bytes begin with this fault.
pub data IsFault (unit : Unit) (fresh : Bool) : Bytes → Fault → Type 0 where
  -- neither white space, nor in a word, nor a directive, a comment or a punctuator
  bad_byte : (byte : ℕ) (rest : Bytes)
      → is_white byte ≡ false
      → is_in_word byte ≡ false
      → (byte ≡ hash → fresh ≡ false)
      → begins_comment (byte ∷ rest) ≡ false
      → punctuator_number (byte ∷ []) ≡ None
      → IsLongest (byte ∷ []) rest
      → IsFault unit fresh (byte ∷ rest) BadByte
  -- a run from a digit on that is no number
  bad_number : (text rest : Bytes)
      → IsRun is_in_number text rest
      → is_digit (slice_index text 0) ≡ true
      → ((n : ℕ) → IsNumber text n → ⊥)
      → IsFault unit fresh (text ++ rest) BadNumber
  -- a line from its `#` on that is no directive of this unit
  directive : (line rest : Bytes)
      → fresh ≡ true
      → IsRun is_in_line (hash ∷ line) rest
      → (IsInclude (hash ∷ line) → ⊥)
      → ((p : Pos) → unit ≡ Merge → SetsPosition (hash ∷ line) p → ⊥)
      → IsFault unit fresh (hash ∷ (line ++ rest)) Directive
  reserved : (text rest : Bytes)
      → IsRun is_in_word text rest
      → is_word text ≡ true
      → is_refused unit text ≡ true
      → IsFault unit fresh (text ++ rest) Reserved
  open_comment : (rest : Bytes)
      → has_close rest ≡ false
      → IsFault unit fresh (slash ∷ star ∷ rest) OpenComment

-- the number of the refusal
abbrev pub fault_number : Fault → ℕ
fault_number BadByte = refusal.bad_byte
fault_number BadNumber = refusal.bad_number
fault_number Directive = refusal.bad_directive
fault_number Reserved = refusal.reserved_word
fault_number OpenComment = refusal.open_comment
