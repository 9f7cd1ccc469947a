-- The positions of tokens that texts of sources have can be printed.
use Rattle.std.specs.Prelude.{⊤, ◌≡◌, ◌+◌, ◌<◌, ◌≤◌, ℕ, zero, suc, Bool, true, false, cond, ◌==◌, List, [], ◌∷◌, ◌++◌, All, length, slice_index_or}
use Rattle.std.proofs.Common.{refl, sym, subst, arith}
use Rattle.std.proofs.lemmas.List.{length-append}
use Rattle.std.proofs.lemmas.List.Elements.{All-head, All-tail}
use Rattle.c_lang.specs.Names.{Bytes}
use Rattle.c_lang.specs.Units.{IsPosition, HasPrograms}
use Rattle.c_lang.specs.declared.unit.Unit.{Unit}
use Rattle.c_lang.specs.declared.unit.Unit.TheVariants as unit
use Rattle.c_lang.specs.declared.unit.Pos.{Pos}
use Rattle.c_grammar.specs.Bytes.{line_feed}
use Rattle.c_grammar.specs.Pieces.{IsPiece}
use Rattle.c_grammar.specs.Pieces as lexed
use Rattle.c_grammar.specs.Lexed.{Cuts, goes, ends, tokens_of, after_byte, after_bytes, place_behind, first_place}
use Rattle.c_grammar.specs.declared.token.Token.{Token}
use Rattle.c_grammar.specs.declared.piece.Piece.{Piece}
use Rattle.c_grammar.specs.declared.piece.Place.{Place}
use Rattle.c_grammar.specs.Written.{MayBeWritten, IsGiven}
use Rattle.written_laws.specs.Sources.{IsSource}

abbrev pub TokensHavePositions : List Token → Type 0
TokensHavePositions [] = ⊤
TokensHavePositions (t ∷ ts) = IsPosition t.pos × TokensHavePositions ts

pub split_positions : (xs ys : List Token) → TokensHavePositions (xs ++ ys) → TokensHavePositions xs × TokensHavePositions ys
split_positions [] ys h = (tt, h)
split_positions (x ∷ xs) ys h = let both = split_positions xs ys h.1 in ((h.0, both.0), both.1)

joined_positions : (xs ys : List Token) → TokensHavePositions xs → TokensHavePositions ys → TokensHavePositions (xs ++ ys)
joined_positions [] ys h k = k
joined_positions (x ∷ xs) ys h k = (h.0, joined_positions xs ys h.1 k)

-- ---- how far a place can move

-- it stands in the unit, past no more than so many lines
record Stands (u : Unit) (most : ℕ) (p : Pos) : Type 0 where
  unit_is : p.unit ≡ u
  some : 1 ≤ p.line
  few : p.line ≤ most

byte_moves : (u : Unit) (most : ℕ) (p : Place) (byte : ℕ) → Stands u most p.pos → Stands u (most + 1) (after_byte p byte).pos
byte_moves u most p byte h = by_test (byte == line_feed) refl
  where
    by_test : (b : Bool) → byte == line_feed ≡ b → Stands u (most + 1) (record { unit = p.pos.unit; line = cond b (p.pos.line + 1) p.pos.line })
    by_test true is = record { unit_is = h.unit_is; some = omega (arith, h.some); few = omega (arith, h.few) }
    by_test false is = record { unit_is = h.unit_is; some = h.some; few = omega (arith, h.few) }

bytes_move : (u : Unit) (most : ℕ) (p : Place) (z : Bytes) → Stands u most p.pos → Stands u (most + length z) (after_bytes p z).pos
bytes_move u most p [] h = subst (λ n. Stands u n p.pos) (omega arith) h
bytes_move u most p (byte ∷ z) h =
    let more = bytes_move u (most + 1) (after_byte p byte) z (byte_moves u most p byte h) in
    subst (λ n. Stands u n (after_bytes (after_byte p byte) z).pos) (omega arith) more

-- ---- a text of sources

has_programs : (u : Unit) → IsSource u → HasPrograms u
has_programs unit.Old source = tt
has_programs unit.New source = tt
has_programs unit.Xform source = tt
has_programs unit.Client source = tt
has_programs unit.Merge source = absurd source
has_programs unit.Hints source = absurd source
has_programs unit.Certs source = absurd source

not_merged : (u : Unit) → IsSource u → u ≡ unit.Merge → ⊥
not_merged u source is = subst IsSource is source

stands_there : (u : Unit) → IsSource u → (most : ℕ) (p : Pos) → most ≤ 262145 → Stands u most p → IsPosition p
stands_there u source most p le h = (subst HasPrograms (sym h.unit_is) (has_programs u source), h.some, omega (arith, h.few))

-- the piece is no directive that sets the position
record Moves (u : Unit) (most : ℕ) (p : Place) (text : Bytes) (x : Piece) : Type 0 where
  behind : Stands u (most + length text) (place_behind p x text).pos
  tokens : TokensHavePositions (tokens_of p x text)

piece_moves : (u : Unit) → IsSource u → (most : ℕ) (p : Place) (rest text : Bytes) (x : Piece) → Stands u most p.pos → most ≤ 262145
    → IsPiece u p.fresh rest text x → Moves u most p text x
piece_moves u source most p rest text x h le (lexed.white byte is) = record { behind = bytes_move u most p text h; tokens = tt }
piece_moves u source most p rest text x h le (lexed.block_comment body is) = record { behind = bytes_move u most p text h; tokens = tt }
piece_moves u source most p rest text x h le (lexed.line_comment body run) = record { behind = bytes_move u most p text h; tokens = tt }
piece_moves u source most p rest text x h le (lexed.include_line _ new run is) = record { behind = bytes_move u most p text h; tokens = tt }
piece_moves u source most p rest text x h le (lexed.position_line _ to new merge run is) = absurd (not_merged u source merge)
piece_moves u source most p rest text x h le (lexed.number _ n run is) = record { behind = bytes_move u most p text h; tokens = (stands_there u source most p.pos le h, tt) }
piece_moves u source most p rest text x h le (lexed.keyword _ k run is free e) = record { behind = bytes_move u most p text h; tokens = (stands_there u source most p.pos le h, tt) }
piece_moves u source most p rest text x h le (lexed.identifier _ run is free e) = record { behind = bytes_move u most p text h; tokens = (stands_there u source most p.pos le h, tt) }
piece_moves u source most p rest text x h le (lexed.punctuator _ k e longest uncommented) = record { behind = bytes_move u most p text h; tokens = (stands_there u source most p.pos le h, tt) }

cuts_stand : (u : Unit) → IsSource u → (most : ℕ) (p : Place) (z : Bytes) (ts : List Token) → Stands u most p.pos → most + length z ≤ 262145
    → Cuts u p z ts → TokensHavePositions ts
cuts_stand u source most p z ts h le (ends _) = tt
cuts_stand u source most p z ts h le (goes _ text rest x more is cuts) =
    let same = length-append text rest in
    let first = piece_moves u source most p rest text x h (omega (arith, le)) is in
    joined_positions (tokens_of p x text) more first.tokens
    (cuts_stand u source (most + length text) (place_behind p x text) rest more first.behind (omega (arith, le, same)) cuts)

-- a text of sources is no longer than this
within : (u : Unit) → IsSource u → (n : ℕ) → MayBeWritten u n → n ≤ 262144
within unit.Old source n h = h
within unit.New source n h = h
within unit.Xform source n h = h
within unit.Client source n h = h
within unit.Merge source n h = absurd source
within unit.Hints source n h = absurd source
within unit.Certs source n h = absurd source

contained : (ts : List Token) (t : Token) (k : ℕ) → TokensHavePositions ts → k < length ts → slice_index_or ts k t ≡ t → IsPosition t.pos
contained [] t k h lt is = let never : ⊥ = omega (arith, lt) in absurd never
contained (t' ∷ ts) t zero h lt is = subst (λ (t : Token). IsPosition t.pos) is h.0
contained (t' ∷ ts) t (suc k) h lt is = contained ts t k h.1 (omega (arith, lt)) is

given_position : (u : Unit) → IsSource u → (t : Token) → IsGiven u t → IsPosition t.pos
given_position u source t g =
    let start : Stands u 1 (first_place u).pos = record { unit_is = refl; some = omega arith; few = omega arith } in
    let size = within u source (length g.bytes) g.size in
    contained g.tokens t g.there.0 (cuts_stand u source 1 (first_place u) g.bytes g.tokens start (omega (arith, size)) g.lexed) g.there.1 g.there.2

-- tokens that texts of a unit of sources have
pub given_positions : (u : Unit) → IsSource u → (ts : List Token) → All (IsGiven u) ts → TokensHavePositions ts
given_positions u source [] given = tt
given_positions u source (t ∷ ts) given =
    (given_position u source t (All-head (IsGiven u) t ts given), given_positions u source ts (All-tail (IsGiven u) t ts given))
