-- What stands before the first end of a kind.
use Rattle.std.proofs.Common.{◌≡◌, ℕ, suc, ◌+◌, ◌<◌, Bool, true, false, not, cond, eqb, List, [], ◌∷◌, ◌++◌, length, take, drop, Option, Some, None, refl, sym, ap, ◌∙◌, arith, inl, inr}
use Rattle.std.specs.List.{list_all}
use Rattle.std.proofs.lemmas.Bool.{eqb-true}
use Rattle.c_lexer.proofs.Cases.{chosen, and_both, not_true}
use Rattle.hint_texts.specs.declared.token.Token.{Token}
use Rattle.hint_texts.specs.declared.token.Kind.{Kind}
use Rattle.hint_texts.specs.declared.token.Kind.TheVariants as kind
use Rattle.hint_texts.specs.declared.token.Closing.{Closing}
use Rattle.hint_texts.specs.declared.token.Closing.TheVariants as closing
use Rattle.hint_texts.specs.Code.Reading.{closing_number, is_closing, with_first, length_to, cut}

step_is : (n : ℕ) → 1 + n ≡ suc n
step_is n = omega arith

pub cut_found : (c : Closing) (ts : List Token) → length_to c ts < length ts → cut c ts ≡ Some (take (length_to c ts) ts, drop (length_to c ts + 1) ts)
cut_found c [] lt = let never : ⊥ = omega arith in absurd never
cut_found c (t ∷ ts) lt = by_case (cut_found c ts) (is_closing c t.kind) refl
  where
    by_case : (length_to c ts < length ts → cut c ts ≡ Some (take (length_to c ts) ts, drop (length_to c ts + 1) ts)) → (b : Bool) → is_closing c t.kind ≡ b
        → cut c (t ∷ ts) ≡ Some (take (length_to c (t ∷ ts)) (t ∷ ts), drop (length_to c (t ∷ ts) + 1) (t ∷ ts))
    by_case later true e = rw e refl
    by_case later false e =
        let first : length_to c (t ∷ ts) ≡ suc (length_to c ts) = rw e (step_is (length_to c ts)) in
        let more : suc (length_to c ts) + 1 ≡ suc (length_to c ts + 1) = omega arith in
        let few : length_to c ts < length ts = omega (arith, first, lt) in
        rw (first, more, e, later few) refl

pub cut_nothing : (c : Closing) (ts : List Token) → length_to c ts ≡ length ts → cut c ts ≡ None
cut_nothing c [] e = refl
cut_nothing c (t ∷ ts) e = by_case (cut_nothing c ts) (is_closing c t.kind) refl
  where
    by_case : (length_to c ts ≡ length ts → cut c ts ≡ None) → (b : Bool) → is_closing c t.kind ≡ b → cut c (t ∷ ts) ≡ None
    by_case later true h =
        let first : length_to c (t ∷ ts) ≡ 0 = rw h refl in
        let never : ⊥ = omega (arith, first, e) in absurd never
    by_case later false h =
        let first : length_to c (t ∷ ts) ≡ suc (length_to c ts) = rw h (step_is (length_to c ts)) in
        let same : length_to c ts ≡ length ts = omega (arith, first, e) in
        rw (h, later same) refl

-- ---- what is cut, and that it is cut again

-- no such end is among the tokens
abbrev pub is_free : Closing → List Token → Bool
is_free c ts = list_all (λ t. not (is_closing c t.kind)) ts

pub cut_again : (c : Closing) (front : List Token) (t : Token) (rest : List Token) → is_free c front ≡ true → is_closing c t.kind ≡ true → cut c (front ++ t ∷ rest) ≡ Some (front, rest)
cut_again c [] t rest free e = rw e refl
cut_again c (u ∷ front) t rest free e =
    let both = and_both (not (is_closing c u.kind)) (is_free c front) free in
    rw (not_true _ both.0, cut_again c front t rest both.1 e) refl

closing_at : ℕ → Closing
closing_at n = cond (eqb n 0) closing.Semicolon (cond (eqb n 1) closing.Colon closing.Range)

closing_back : (c : Closing) → closing_at (closing_number c) ≡ c
unfolding closing_at
closing_back closing.Semicolon = refl
closing_back closing.Colon = refl
closing_back closing.Range = refl

pub closing_is : (c : Closing) (k : Kind) → is_closing c k ≡ true → k ≡ kind.Closing c
closing_is c (kind.Closing d) e = ap kind.Closing (sym (closing_back d) ∙ ap closing_at (eqb-true _ _ e) ∙ closing_back c)
closing_is c (kind.Name x) e = absurd cc
closing_is c (kind.Cell x) e = absurd cc
closing_is c (kind.Part t) e = absurd cc
closing_is c kind.Function e = absurd cc

-- what was cut off
pub record IsCut (c : Closing) (ts front rest : List Token) : Type 0 where
  pub line : ℕ
  pub splits : ts ≡ front ++ (record { kind = kind.Closing c; line = line } ∷ rest)

pub cut_is : (c : Closing) (ts front rest : List Token) → cut c ts ≡ Some (front, rest) → IsCut c ts front rest
cut_is c [] front rest e = absurd cc
cut_is c (t ∷ ts) front rest e = elim (chosen (is_closing c t.kind) (Some ([], ts)) (with_first t (cut c ts)) (Some (front, rest)) e) [
  | inl h ↦ here (closing_is c t.kind h.0) h.1
  | inr h ↦ later (λ f r s. cut_is c ts f r s) (cut c ts) refl h.1
]
  where
    pair_is : (x y : List Token × List Token) → Some x ≡ Some y → x ≡ y
    pair_is x y h = cc

    here : t.kind ≡ kind.Closing c → ◌≡◌ {A = Option (List Token × List Token)} (Some ([], ts)) (Some (front, rest)) → IsCut c (t ∷ ts) front rest
    here k q =
        let p = pair_is ([], ts) (front, rest) q in
        let f : [] ≡ front = ap (λ (x : List Token × List Token). x.0) p in
        let r : ts ≡ rest = ap (λ (x : List Token × List Token). x.1) p in
        record { line = t.line; splits = rw (← f, ← r, ← k) refl }

    later : ((f r : List Token) → cut c ts ≡ Some (f, r) → IsCut c ts f r) → (o : Option (List Token × List Token)) → cut c ts ≡ o → with_first t o ≡ Some (front, rest) → IsCut c (t ∷ ts) front rest
    later again None s q = absurd cc
    later again (Some x) s q =
        let i = again x.0 x.1 s in
        let p = pair_is (t ∷ x.0, x.1) (front, rest) q in
        let f : t ∷ x.0 ≡ front = ap (λ (y : List Token × List Token). y.0) p in
        let r : x.1 ≡ rest = ap (λ (y : List Token × List Token). y.1) p in
        record { line = i.line; splits = ap (λ (us : List Token). t ∷ us) i.splits ∙ rw (← f, ← r) refl }
