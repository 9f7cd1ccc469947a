-- The loop over a text, a piece at a time.
use Rattle.std.proofs.Common.{◌≡◌, ℕ, zero, suc, ◌≤◌, List, [], ◌∷◌, ◌++◌, length, drop, Option, Some, None, refl, sym, ap, ◌∙◌, append_assoc, append-nil, length-drop, arith}
use Rattle.c_lang.specs.Names.{Bytes}
use Rattle.formula_texts.specs.declared.token.Token.{Token}
use Rattle.formula_texts.specs.declared.stop.Stop.{Stop}
use Rattle.formula_texts.specs.declared.stop.Stop.TheVariants as stop
use Rattle.formula_texts.specs.Grammar.{◌>>=◌}
use Rattle.formula_texts.specs.Code.Lexing.{Cut, piece_at, kept, lexed}
use Rattle.formula_texts.specs.Code.Reading.{Fails}

abbrev pub with_front : List Token → Option (List Token) → Option (List Token)
with_front front ts = ts >>= λ us. Some (front ++ us)

-- enough turns are left for the whole that is cut
abbrev pub IsLeft : List Token → Bytes → Option (List Token) → Type 0
IsLeft front rest total = (k : ℕ) × (length rest ≤ k) × (with_front front (lexed k rest) ≡ total)

pub begins : (text : Bytes) → IsLeft [] text (lexed (length text) text)
begins text = (length text, omega arith, same (lexed (length text) text))
  where
    same : (o : Option (List Token)) → with_front [] o ≡ o
    same None = refl
    same (Some ts) = refl

kept_front : (front : List Token) (c : Option Token) (o : Option (List Token)) → with_front (front ++ kept c []) o ≡ with_front front (o >>= λ ts. Some (kept c ts))
kept_front front c None = refl
kept_front front None (Some ts) = ap (λ (x : List Token). Some (x ++ ts)) (append-nil front)
kept_front front (Some t) (Some ts) = ap (λ (x : List Token). Some x) (append_assoc front (t ∷ []) ts)

pub goes_on : (front more : List Token) (rest : Bytes) (cut : Cut) (total : Option (List Token)) → piece_at rest ≡ Some cut → 1 ≤ cut.1 → cut.1 ≤ length rest → more ≡ front ++ kept cut.0 []
    → IsLeft front rest total → IsLeft more (drop cut.1 rest) total
unfolding lexed
goes_on front more [] cut total e some fits m (k, le, so_far) = let never : ⊥ = omega arith in absurd never
goes_on front more (byte ∷ rest) cut total e some fits m (zero, le, so_far) = let never : ⊥ = omega arith in absurd never
goes_on front more (byte ∷ rest) cut total e some fits m (suc k, le, so_far) =
    let turn : with_front more (lexed k (drop cut.1 (byte ∷ rest))) ≡ with_front front (lexed (suc k) (byte ∷ rest)) = rw (m, e) (kept_front front cut.0 (lexed k (drop cut.1 (byte ∷ rest)))) in
    (k, omega (arith, length-drop cut.1 (byte ∷ rest)), turn ∙ so_far)

pub ends : (front : List Token) (rest : Bytes) (total : Option (List Token)) → length rest ≡ 0 → IsLeft front rest total → total ≡ Some front
unfolding lexed
ends front [] total e (k, le, so_far) = sym so_far ∙ ap (λ (x : List Token). Some x) (append-nil front)
ends front (byte ∷ rest) total e left = let never : ⊥ = omega arith in absurd never

pub fails : (front : List Token) (rest : Bytes) (total : Option (List Token)) (s : Stop) → 1 ≤ length rest → Fails s (piece_at rest) → IsLeft front rest total → Fails s total
unfolding lexed
fails front rest total stop.NoMemory some e left = tt
fails front [] total stop.NoText some e left = let never : ⊥ = omega arith in absurd never
fails front (byte ∷ rest) total stop.NoText some e (zero, le, so_far) = let never : ⊥ = omega arith in absurd never
fails front (byte ∷ rest) total stop.NoText some e (suc k, le, so_far) = sym so_far ∙ rw e refl
