-- The names and numbers of tokens that a text has.
use Rattle.std.specs.Prelude.{⊤, ◌≡◌, ◌<◌, ℕ, zero, suc, List, [], ◌∷◌, ◌++◌, All, length, slice_index_or}
use Rattle.std.proofs.Common.{refl, subst, arith}
use Rattle.std.proofs.lemmas.List.Elements.{All-head, All-tail}
use Rattle.c_lang.specs.Names.{Bytes}
use Rattle.c_lang.specs.declared.unit.Unit.TheVariants.{Merge}
use Rattle.c_grammar.specs.Pieces.{IsPiece}
use Rattle.c_grammar.specs.Pieces as lexed
use Rattle.c_grammar.specs.Lexed.{Cuts, goes, ends, tokens_of}
use Rattle.c_grammar.specs.declared.token.Token.{Token}
use Rattle.c_grammar.specs.declared.token.Word.{Word}
use Rattle.c_grammar.specs.declared.token.Word.TheVariants as w
use Rattle.c_grammar.specs.declared.piece.Piece.{Piece}
use Rattle.c_grammar.specs.declared.piece.Place.{Place}
use Rattle.c_grammar.specs.Written.{IsGiven}
use Rattle.merge_printer.proofs.Words.{IsName}
use Rattle.merge_printer.proofs.ExpressionLaw.{IsLiteral}

abbrev pub WordFits : Word → Type 0
WordFits (w.Number z) = IsLiteral z
WordFits (w.Ident x) = IsName x
WordFits (w.Key k) = ⊤
WordFits (w.Punct k) = ⊤

abbrev pub TokensFit : List Token → Type 0
TokensFit [] = ⊤
TokensFit (t ∷ ts) = WordFits t.what × TokensFit ts

pub fit_append : (xs ys : List Token) → TokensFit (xs ++ ys) → TokensFit xs × TokensFit ys
fit_append [] ys h = (tt, h)
fit_append (x ∷ xs) ys h = let both = fit_append xs ys h.1 in ((h.0, both.0), both.1)

joined_fit : (xs ys : List Token) → TokensFit xs → TokensFit ys → TokensFit (xs ++ ys)
joined_fit [] ys h k = k
joined_fit (x ∷ xs) ys h k = (h.0, joined_fit xs ys h.1 k)

piece_fits : (p : Place) (rest text : Bytes) (x : Piece) → IsPiece Merge p.fresh rest text x → TokensFit (tokens_of p x text)
piece_fits p rest text x (lexed.white byte h) = tt
piece_fits p rest text x (lexed.block_comment body h) = tt
piece_fits p rest text x (lexed.line_comment body run) = tt
piece_fits p rest text x (lexed.include_line _ new run is) = tt
piece_fits p rest text x (lexed.position_line _ at new merge run is) = tt
piece_fits p rest text x (lexed.number _ n run is) = ((n, refl, is.fits), tt)
piece_fits p rest text x (lexed.keyword _ k run is free e) = (tt, tt)
piece_fits p rest text x (lexed.identifier _ run is free e) = ((is, e), tt)
piece_fits p rest text x (lexed.punctuator _ k e longest uncommented) = (tt, tt)

cuts_fit : (p : Place) (z : Bytes) (ts : List Token) → Cuts Merge p z ts → TokensFit ts
cuts_fit p z ts (ends _) = tt
cuts_fit p z ts (goes _ text rest x more is cuts) = joined_fit (tokens_of p x text) more (piece_fits p rest text x is) (cuts_fit _ rest more cuts)

contained : (ts : List Token) (t : Token) (k : ℕ) → TokensFit ts → k < length ts → slice_index_or ts k t ≡ t → WordFits t.what
contained [] t k fits lt is = let never : ⊥ = omega (arith, lt) in absurd never
contained (t' ∷ ts) t zero fits lt is = subst (λ (t : Token). WordFits t.what) is fits.0
contained (t' ∷ ts) t (suc k) fits lt is = contained ts t k fits.1 (omega (arith, lt)) is

-- tokens that a text has
pub given_fit : (ts : List Token) → All (IsGiven Merge) ts → TokensFit ts
given_fit [] given = tt
given_fit (t ∷ ts) given =
    let g = All-head (IsGiven Merge) t ts given in
    (contained g.tokens t g.there.0 (cuts_fit _ g.bytes g.tokens g.lexed) g.there.1 g.there.2, given_fit ts (All-tail (IsGiven Merge) t ts given))
