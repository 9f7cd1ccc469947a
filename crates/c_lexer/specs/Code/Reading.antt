-- What the functions compute, as functions on lists. The contract of `lex` doesn't speak of them.
use Rattle.std.specs.Prelude.{⊤, ◌≡◌, ℕ, pos, zero, suc, ◌+◌, ◌-◌, ◌*◌, ◌≤◌, Bool, not, ◌&&◌, if◌then◌else◌, ◌==◌, nat_lt, nat_le, nat_eq, bytes_eq, List, [], ◌∷◌, ◌++◌, length, take, drop, slice_index, Option, Some, None, Result, Ok, Err, codes}
use Rattle.std.specs.List.{starts_with, prefix_len}
use Rattle.c_lang.specs.Names.{Bytes, is_digit, is_letter}
use Rattle.c_lang.specs.declared.unit.Unit.{Unit}
use Rattle.c_lang.specs.declared.unit.Unit.TheVariants as unit
use Rattle.c_lang.specs.declared.unit.Pos.{Pos}
use Rattle.c_lang.specs.declared.refusal.Fail.{Fail}
use Rattle.c_lang.specs.declared.refusal.Fail.TheVariants as fail
use Rattle.c_lang.specs.declared.refusal.Refusal.{Refusal}
use Rattle.c_grammar.specs.Bytes.{is_white, is_space, is_blank, is_in_line, is_in_word, is_in_number}
use Rattle.c_grammar.specs.Words.{keyword_number, is_refused}
use Rattle.c_grammar.specs.Punctuators.{punctuator_number}
use Rattle.c_grammar.specs.Pieces.{begins_comment, fault_number, quoted}
use Rattle.c_grammar.specs.Lexed.{after_byte, turned, token, first_place}
use Rattle.c_lang.specs.Refusals.{refused_at}
use Rattle.c_lexer.specs.declared.bytes.Class.{Class}
use Rattle.c_lexer.specs.declared.bytes.Class.TheVariants as class
use Rattle.c_grammar.specs.declared.token.Token.{Token}
use Rattle.c_grammar.specs.declared.token.Word.TheVariants as w
use Rattle.c_grammar.specs.declared.piece.Fault.TheVariants as fault
use Rattle.c_grammar.specs.declared.piece.Piece.{Piece}
use Rattle.c_grammar.specs.declared.piece.Piece.TheVariants as piece
use Rattle.c_grammar.specs.declared.piece.Place.{Place}

abbrev pub is_in : Class → ℕ → Bool
is_in class.Digit = is_digit
is_in class.Word = is_in_word
is_in class.Number = is_in_number
is_in class.Line = is_in_line
is_in class.Blank = is_blank
is_in class.Space = is_space

-- a piece, and how many bytes it has
abbrev pub Cut : Type 0
Cut = Piece × ℕ

abbrev pub IsWithin : Bytes → Cut → Type 0
IsWithin bytes cut = (1 ≤ cut.1) × (cut.1 ≤ length bytes)

-- a `#line` gives a line that can be counted on from
abbrev pub Fits : Piece → Type 0
Fits (piece.Position p) = (1 ≤ p.line) × (p.line ≤ 2147483647)
Fits piece.Space = ⊤
Fits (piece.Token what) = ⊤
Fits (piece.Fault fault) = ⊤

-- ---- numbers

-- the number that the digits go on to, where it stays in range
abbrev pub value_from : ℕ → Bytes → Option ℕ
value_from front [] = Some front
value_from front (byte ∷ bytes) =
    if is_digit byte && nat_le (front * 10 + (byte - 48)) 2147483647 then value_from (front * 10 + (byte - 48)) bytes else None

abbrev pub has_leading_zero : Bytes → Bool
has_leading_zero text = nat_lt 1 (length text) && slice_index text 0 == 48

abbrev pub number_of : Bytes → Option ℕ
number_of text = if has_leading_zero text then None else value_from 0 text

abbrev pub number_by : Option ℕ → ℕ → Cut
number_by None end = (piece.Fault fault.BadNumber, end)
number_by (Some n) end = (piece.Token (w.Number (pos n)), end)

abbrev pub number : Bytes → Cut
number bytes = let end = prefix_len is_in_number bytes in number_by (number_of (take end bytes)) end

-- ---- words

abbrev pub word_by : Bytes → Option ℕ → ℕ → Cut
word_by text None end = (piece.Token (w.Ident text), end)
word_by text (Some k) end = (piece.Token (w.Key k), end)

abbrev pub word : Unit → Bytes → Cut
word unit bytes =
    let end = prefix_len is_in_word bytes in
    if is_refused unit (take end bytes) then (piece.Fault fault.Reserved, end) else word_by (take end bytes) (keyword_number (take end bytes)) end

-- ---- comments

-- the length up to the end of the first `*/`, after so many bytes
abbrev pub closing : ℕ → Bytes → Option ℕ
closing passed [] = None
closing passed (byte ∷ rest) = if byte == 42 && slice_index rest 0 == 47 then Some (passed + 2) else closing (passed + 1) rest

abbrev pub block_by : Option ℕ → Cut
block_by None = (piece.Fault fault.OpenComment, 1)
block_by (Some size) = (piece.Space, size + 2)

abbrev pub comment : Bytes → Cut
comment bytes =
    if slice_index bytes 1 == 42 then block_by (closing 0 (drop 2 bytes)) else (piece.Space, prefix_len is_in_line (drop 2 bytes) + 2)

-- ---- directives

abbrev pub begins_include : Bytes → Bool
begins_include bytes = starts_with nat_eq bytes (codes "include") && not (is_in_word (slice_index bytes 7))

abbrev pub is_include : Bytes → Bool
is_include line = let rest = drop 1 line in begins_include (drop (prefix_len is_blank rest) rest)

abbrev pub behind_spaces : Bytes → Option Bytes
behind_spaces bytes = let end = prefix_len is_space bytes in if end == 0 then None else Some (drop end bytes)

unfoldable pub quoted_unit : Bytes → Option Unit
quoted_unit bytes =
    if bytes_eq bytes (quoted unit.Old) then Some unit.Old else
    (if bytes_eq bytes (quoted unit.New) then Some unit.New else
    (if bytes_eq bytes (quoted unit.Xform) then Some unit.Xform else
    (if bytes_eq bytes (quoted unit.Client) then Some unit.Client else
    (if bytes_eq bytes (quoted unit.Merge) then Some unit.Merge else None))))

abbrev pub unit_by : Option Bytes → Option Unit
unit_by None = None
unit_by (Some bytes) = quoted_unit bytes

abbrev pub position_by : Option ℕ → Option Unit → Option Pos
position_by None named = None
position_by (Some line) None = None
position_by (Some line) (Some named) = if line == 0 then None else Some (record { unit = named; line = line })

unfoldable pub numbered : Bytes → Option Pos
numbered bytes = let end = prefix_len is_digit bytes in position_by (number_of (take end bytes)) (unit_by (behind_spaces (drop end bytes)))

abbrev pub numbered_by : Option Bytes → Option Pos
numbered_by None = None
numbered_by (Some bytes) = numbered bytes

unfoldable pub position_of : Bytes → Option Pos
position_of line = if starts_with nat_eq line (codes "#line") then numbered_by (behind_spaces (drop 5 line)) else None

abbrev pub position_in : Unit → Bytes → Option Pos
position_in unit.Merge line = position_of line
position_in unit.Old line = None
position_in unit.New line = None
position_in unit.Xform line = None
position_in unit.Client line = None
position_in unit.Hints line = None
position_in unit.Certs line = None

abbrev pub directive_by : Option Pos → ℕ → Cut
directive_by None end = (piece.Fault fault.Directive, end)
directive_by (Some p) end = (piece.Position p, end)

abbrev pub directive : Unit → Bool → Bytes → Cut
directive unit fresh bytes =
    if not fresh then (piece.Fault fault.BadByte, 1) else
    (let end = prefix_len is_in_line bytes in
    if is_include (take end bytes) then (piece.Space, end) else directive_by (position_in unit (take end bytes)) end)

-- ---- punctuators

abbrev pub single : ℕ → Option ℕ
single byte = punctuator_number (byte ∷ [])

-- both bytes of the punctuators that have two, and their numbers
abbrev pub pairs : List (ℕ × ℕ × ℕ)
pairs = (60, 61, 17) ∷ (62, 61, 18) ∷ (61, 61, 19) ∷ (33, 61, 20) ∷ (38, 38, 21) ∷ (124, 124, 22) ∷ (43, 43, 23) ∷ (45, 45, 24) ∷ []

abbrev pub pair_in : List (ℕ × ℕ × ℕ) → ℕ → ℕ → Option ℕ
pair_in [] byte next = None
pair_in (entry ∷ entries) byte next = if byte == entry.0 && next == entry.1 then Some entry.2 else pair_in entries byte next

unfoldable pub pair : ℕ → ℕ → Option ℕ
pair byte next = pair_in pairs byte next

abbrev pub single_by : Option ℕ → Cut
single_by None = (piece.Fault fault.BadByte, 1)
single_by (Some k) = (piece.Token (w.Punct k), 1)

abbrev pub pair_by : Option ℕ → ℕ → Cut
pair_by None byte = single_by (single byte)
pair_by (Some k) byte = (piece.Token (w.Punct k), 2)

abbrev pub punctuator : Bytes → Cut
punctuator [] = (piece.Fault fault.BadByte, 1)
punctuator (byte ∷ []) = single_by (single byte)
punctuator (byte ∷ next ∷ rest) = pair_by (pair byte next) byte

-- ---- a piece, and the whole text

unfoldable pub piece_at : Unit → Bool → Bytes → Cut
piece_at unit fresh bytes =
    let byte = slice_index bytes 0 in
    if is_white byte then (piece.Space, 1) else
    (if is_digit byte then number bytes else
    (if is_letter byte then word unit bytes else
    (if byte == 35 then directive unit fresh bytes else
    (if begins_comment bytes then comment bytes else punctuator bytes))))

abbrev pub Outcome : Type 0
Outcome = Result (List Token) Refusal

abbrev pub Fails : Fail → Outcome → Type 0
Fails fail.NoMemory outcome = ⊤
Fails (fail.Refused why) outcome = outcome ≡ Err why

abbrev pub kept : Place → Cut → Outcome
kept p (piece.Space, size) = Ok []
kept p (piece.Position given, size) = Ok []
kept p (piece.Token what, size) = Ok (token p what size ∷ [])
kept p (piece.Fault fault, size) = Err (refused_at (fault_number fault) p.pos)

abbrev pub with_front : List Token → Outcome → Outcome
with_front front (Ok tokens) = Ok (front ++ tokens)
with_front front (Err why) = Err why

abbrev pub joined : Outcome → Outcome → Outcome
joined (Ok front) more = with_front front more
joined (Err why) more = Err why

-- The number counts the bytes that are left of a piece.
unfoldable pub reading_from : Unit → ℕ → Place → Bytes → Outcome
reading_from unit left p [] = Ok []
reading_from unit (suc left) p (byte ∷ bytes) = reading_from unit left (after_byte p byte) bytes
reading_from unit zero p (byte ∷ bytes) =
    joined (kept p (piece_at unit p.fresh (byte ∷ bytes)))
    (reading_from unit ((piece_at unit p.fresh (byte ∷ bytes)).1 - 1) (after_byte (turned p (piece_at unit p.fresh (byte ∷ bytes)).0) byte) bytes)

abbrev pub reading : Unit → Bytes → Outcome
reading unit bytes = reading_from unit 0 (first_place unit) bytes
