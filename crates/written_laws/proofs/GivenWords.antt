-- The names and numbers of tokens that texts of a unit have.
use Rattle.std.specs.Prelude.{⊤, ◌≡◌, ◌<◌, ℕ, zero, suc, List, [], ◌∷◌, ◌++◌, All, length, slice_index_or}
use Rattle.std.proofs.Common.{refl, subst, arith}
use Rattle.std.proofs.lemmas.List.Elements.{All-head, All-tail}
use Rattle.c_lang.specs.Names.{Bytes}
use Rattle.c_lang.specs.declared.unit.Unit.{Unit}
use Rattle.c_grammar.specs.Pieces.{IsPiece}
use Rattle.c_grammar.specs.Pieces as lexed
use Rattle.c_grammar.specs.Lexed.{Cuts, goes, ends, tokens_of}
use Rattle.c_grammar.specs.declared.token.Token.{Token}
use Rattle.c_grammar.specs.declared.token.Word.{Word}
use Rattle.c_grammar.specs.declared.token.Word.TheVariants as w
use Rattle.c_grammar.specs.declared.piece.Piece.{Piece}
use Rattle.c_grammar.specs.declared.piece.Place.{Place}
use Rattle.c_grammar.specs.Written.{IsGiven}
use Rattle.written_laws.specs.Literals.{IsLiteral}
use Rattle.written_laws.specs.SourceNames.{IsWord}

abbrev pub WordFits : Unit → Word → Type 0
WordFits u (w.Number z) = IsLiteral z
WordFits u (w.Ident x) = IsWord u x
WordFits u (w.Key k) = ⊤
WordFits u (w.Punct k) = ⊤

abbrev pub TokensFit : Unit → List Token → Type 0
TokensFit u [] = ⊤
TokensFit u (t ∷ ts) = WordFits u t.what × TokensFit u ts

pub fit_append : (u : Unit) (xs ys : List Token) → TokensFit u (xs ++ ys) → TokensFit u xs × TokensFit u ys
fit_append u [] ys h = (tt, h)
fit_append u (x ∷ xs) ys h = let both = fit_append u xs ys h.1 in ((h.0, both.0), both.1)

joined_fit : (u : Unit) (xs ys : List Token) → TokensFit u xs → TokensFit u ys → TokensFit u (xs ++ ys)
joined_fit u [] ys h k = k
joined_fit u (x ∷ xs) ys h k = (h.0, joined_fit u xs ys h.1 k)

piece_fits : (u : Unit) (p : Place) (rest text : Bytes) (x : Piece) → IsPiece u p.fresh rest text x → TokensFit u (tokens_of p x text)
piece_fits u p rest text x (lexed.white byte h) = tt
piece_fits u p rest text x (lexed.block_comment body h) = tt
piece_fits u p rest text x (lexed.line_comment body run) = tt
piece_fits u p rest text x (lexed.include_line _ new run is) = tt
piece_fits u p rest text x (lexed.position_line _ at new merge run is) = tt
piece_fits u p rest text x (lexed.number _ n run is) = ((n, refl, is.fits), tt)
piece_fits u p rest text x (lexed.keyword _ k run is free e) = (tt, tt)
piece_fits u p rest text x (lexed.identifier _ run is free e) = (record { word = is; no_keyword = e; allowed = free }, tt)
piece_fits u p rest text x (lexed.punctuator _ k e longest uncommented) = (tt, tt)

cuts_fit : (u : Unit) (p : Place) (z : Bytes) (ts : List Token) → Cuts u p z ts → TokensFit u ts
cuts_fit u p z ts (ends _) = tt
cuts_fit u p z ts (goes _ text rest x more is cuts) = joined_fit u (tokens_of p x text) more (piece_fits u p rest text x is) (cuts_fit u _ rest more cuts)

contained : (u : Unit) (ts : List Token) (t : Token) (k : ℕ) → TokensFit u ts → k < length ts → slice_index_or ts k t ≡ t → WordFits u t.what
contained u [] t k fits lt is = let never : ⊥ = omega (arith, lt) in absurd never
contained u (t' ∷ ts) t zero fits lt is = subst (λ (t : Token). WordFits u t.what) is fits.0
contained u (t' ∷ ts) t (suc k) fits lt is = contained u ts t k fits.1 (omega (arith, lt)) is

-- tokens that texts of the unit have
pub given_fit : (u : Unit) (ts : List Token) → All (IsGiven u) ts → TokensFit u ts
given_fit u [] given = tt
given_fit u (t ∷ ts) given =
    let g = All-head (IsGiven u) t ts given in
    (contained u g.tokens t g.there.0 (cuts_fit u _ g.bytes g.tokens g.lexed) g.there.1 g.there.2, given_fit u ts (All-tail (IsGiven u) t ts given))
