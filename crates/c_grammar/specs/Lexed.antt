-- The tokens of a text, and why a text is refused.
use Rattle.std.specs.Prelude.{⊤, ◌≡◌, ℕ, ◌+◌, ◌-◌, ◌<◌, ◌≤◌, pos, true, ◌&&◌, ◌||◌, if◌then◌else◌, ◌==◌, List, [], ◌∷◌, ◌++◌, length, slice_range, Some}
use Rattle.c_lang.specs.Names.{Bytes}
use Rattle.c_lang.specs.Limits.{size_limit}
use Rattle.c_lang.specs.Units.{at}
use Rattle.c_lang.specs.Refusals.{refused_at, past_limit}
use Rattle.c_lang.specs.declared.unit.Unit.{Unit}
use Rattle.c_lang.specs.declared.unit.Pos.{Pos}
use Rattle.c_lang.specs.declared.refusal.Fail.{Fail}
use Rattle.c_lang.specs.declared.refusal.Fail.TheVariants as fail
use Rattle.c_lang.specs.declared.refusal.Refusal.{Refusal}
use Rattle.c_grammar.specs.Bytes.{line_feed, is_blank}
use Rattle.c_grammar.specs.Words.{keyword_number}
use Rattle.c_grammar.specs.Punctuators.{punctuator_number}
use Rattle.c_grammar.specs.Pieces.{IsNumber, IsPiece, IsFault, fault_number}
use Rattle.c_grammar.specs.declared.token.Token.{Token}
use Rattle.c_grammar.specs.declared.token.Word.{Word}
use Rattle.c_grammar.specs.declared.token.Word.TheVariants as w
use Rattle.c_grammar.specs.declared.piece.Fault.{Fault}
use Rattle.c_grammar.specs.declared.piece.Piece.{Piece}
use Rattle.c_grammar.specs.declared.piece.Piece.TheVariants as piece
use Rattle.c_grammar.specs.declared.piece.Place.{Place}

-- the place place_behind a byte
abbrev pub after_byte : Place → ℕ → Place
after_byte p byte = record {
  offset = p.offset + 1;
  pos = record { unit = p.pos.unit; line = if byte == line_feed then p.pos.line + 1 else p.pos.line };
  fresh = byte == line_feed || (p.fresh && is_blank byte);
}

abbrev pub after_bytes : Place → Bytes → Place
after_bytes p [] = p
after_bytes p (byte ∷ bytes) = after_bytes (after_byte p byte) bytes

-- A `#line` directive gives the next line its position, so its own line is the one before.
abbrev pub turned : Place → Piece → Place
turned p (piece.Position given) = record { offset = p.offset; pos = record { unit = given.unit; line = given.line - 1 }; fresh = p.fresh }
turned p piece.Space = p
turned p (piece.Token what) = p
turned p (piece.Fault fault) = p

-- the place place_behind a piece with this text
abbrev pub place_behind : Place → Piece → Bytes → Place
place_behind p x text = after_bytes (turned p x) text

-- a token of so many bytes
abbrev pub token : Place → Word → ℕ → Token
token p what size = record { what = what; start = p.offset; end = p.offset + size; pos = p.pos }

-- the token that a piece is, if it is one
abbrev pub tokens_of : Place → Piece → Bytes → List Token
tokens_of p (piece.Token what) text = token p what (length text) ∷ []
tokens_of p piece.Space text = []
tokens_of p (piece.Position given) text = []
tokens_of p (piece.Fault fault) text = []

-- From this place on the text is a row of pieces, and these are their tokens.
pub data Cuts (unit : Unit) : Place → Bytes → List Token → Type 0 where
  ends : (p : Place) → Cuts unit p [] []
  goes : (p : Place) (text rest : Bytes) (x : Piece) (tokens : List Token)
      → IsPiece unit p.fresh rest text x
      → Cuts unit (place_behind p x text) rest tokens
      → Cuts unit p (text ++ rest) (tokens_of p x text ++ tokens)

abbrev pub first_place : Unit → Place
first_place unit = record { offset = 0; pos = at unit 1; fresh = true }

-- the text has these tokens
abbrev pub Lexed : Unit → Bytes → List Token → Type 0
Lexed unit bytes tokens = Cuts unit (first_place unit) bytes tokens

-- From this place on the text is a row of pieces and then this fault, which has this position.
pub data Stops (unit : Unit) : Place → Bytes → Fault → Pos → Type 0 where
  here : (p : Place) (bytes : Bytes) (fault : Fault)
      → IsFault unit p.fresh bytes fault
      → Stops unit p bytes fault p.pos
  later : (p : Place) (text rest : Bytes) (x : Piece) (fault : Fault) (position : Pos)
      → IsPiece unit p.fresh rest text x
      → Stops unit (place_behind p x text) rest fault position
      → Stops unit p (text ++ rest) fault position

-- the text is refused for this reason: it is too long, or else it has this fault first
pub data Refused (unit : Unit) (bytes : Bytes) : Refusal → Type 0 where
  too_long : size_limit unit < length bytes
      → Refused unit bytes (refused_at past_limit (at unit 1))
  has_fault : (fault : Fault) (p : Pos)
      → length bytes ≤ size_limit unit
      → Stops unit (first_place unit) bytes fault p
      → Refused unit bytes (refused_at (fault_number fault) p)

abbrev pub IsRefusedAs : Fail → Unit → Bytes → Type 0
IsRefusedAs fail.NoMemory unit bytes = ⊤
IsRefusedAs (fail.Refused why) unit bytes = Refused unit bytes why

-- the text says this
abbrev pub Says : Bytes → Word → Type 0
Says text (w.Key k) = keyword_number text ≡ Some k
Says text (w.Ident name) = name ≡ text
Says text (w.Number number) = (n : ℕ) × IsNumber text n × (number ≡ pos n)
Says text (w.Punct k) = punctuator_number text ≡ Some k

-- The tokens stand one place_behind the other from this offset on, and each is what its slice says.
abbrev pub AreSpans : Bytes → ℕ → List Token → Type 0
AreSpans bytes from [] = from ≤ length bytes
AreSpans bytes from (t ∷ tokens) = (from ≤ t.start) × (t.start < t.end) × Says (slice_range bytes t.start t.end) t.what × AreSpans bytes t.end tokens
