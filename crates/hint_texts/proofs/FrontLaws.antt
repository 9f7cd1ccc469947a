-- What stands at the front of the tokens.
use Rattle.std.proofs.Common.{◌≡◌, ℕ, ℤ, pos, negsuc, ◌≤◌, true, leb, List, [], ◌∷◌, Option, Some, None, refl, ap, ◌∙◌, subst, inl, inr}
use Rattle.std.proofs.lemmas.Bool.{eqb-true, leb-true}
use Rattle.c_lang.specs.Names.{Bytes}
use Rattle.c_lexer.proofs.Cases.{chosen, same_bytes}
use Rattle.formula_texts.specs.declared.token.Token.{Token as FormulaToken}
use Rattle.formula_texts.specs.declared.token.Token.TheVariants as token
use Rattle.formula_texts.specs.declared.token.Mark.{Mark}
use Rattle.formula_texts.specs.declared.token.Mark.TheVariants as mark
use Rattle.formula_texts.proofs.OperatorLaws.{same_mark}
use Rattle.hint_texts.specs.declared.token.Token.{Token}
use Rattle.hint_texts.specs.declared.token.Kind.{Kind}
use Rattle.hint_texts.specs.declared.token.Kind.TheVariants as kind
use Rattle.hint_texts.specs.Tokens.{number_limit}
use Rattle.hint_texts.specs.Grammar.{at, mark_kind, Opens}
use Rattle.hint_texts.specs.Code.Reading.{name_in, named_by, name_at, is_mark_token, is_mark, mark_at, small_number, number_token, number_in, numbered_by, number_at, opens, is_word, word_at}

pub some_is : {A : Type 0} (x y : A) → Some x ≡ Some y → x ≡ y
some_is x y e = cc

-- ---- marks

mark_token_is : (m : Mark) (t : FormulaToken) → is_mark_token m t ≡ true → t ≡ token.Mark m
mark_token_is m (token.Mark k) e = ap token.Mark (same_mark k m (eqb-true _ _ e))
mark_token_is m (token.Base x) e = absurd cc
mark_token_is m (token.Count n) e = absurd cc
mark_token_is m (token.Number z) e = absurd cc
mark_token_is m (token.Operator o) e = absurd cc
mark_token_is m token.Not e = absurd cc
mark_token_is m token.Null e = absurd cc
mark_token_is m token.True e = absurd cc
mark_token_is m token.False e = absurd cc
mark_token_is m token.Truth e = absurd cc
mark_token_is m token.Store e = absurd cc

pub mark_is : (m : Mark) (k : Kind) → is_mark m k ≡ true → k ≡ mark_kind m
mark_is m (kind.Part t) e = ap kind.Part (mark_token_is m t e)
mark_is m (kind.Name x) e = absurd cc
mark_is m (kind.Cell x) e = absurd cc
mark_is m kind.Function e = absurd cc
mark_is m (kind.Closing c) e = absurd cc

pub mark_at-is : (m : Mark) (ts rest : List Token) → mark_at m ts ≡ Some rest → (l : ℕ) × (ts ≡ at l (mark_kind m) ∷ rest)
mark_at-is m [] rest e = absurd cc
mark_at-is m (t ∷ ts) rest e = elim (chosen (is_mark m t.kind) (Some ts) None (Some rest) e) [
  | inl h ↦ (t.line, ap (λ (k : Kind). at t.line k ∷ ts) (mark_is m t.kind h.0) ∙ ap (λ (us : List Token). at t.line (mark_kind m) ∷ us) (some_is ts rest h.1))
  | inr h ↦ absurd (let f = h.1 in cc)
]

pub opens_is : (ts : List Token) → opens ts ≡ true → Opens ts
opens_is [] e = absurd cc
opens_is (t ∷ ts) e = mark_is mark.RoundOpen t.kind e

pub opens_again : (ts : List Token) → Opens ts → opens ts ≡ true
opens_again [] h = absurd h
opens_again (t ∷ ts) h = rw h refl

-- ---- names, words and numbers

pub name_in-is : (k : Kind) (x : Bytes) → name_in k ≡ Some x → k ≡ kind.Name x
name_in-is (kind.Name y) x e = ap kind.Name (some_is y x e)
name_in-is (kind.Cell y) x e = absurd cc
name_in-is (kind.Part t) x e = absurd cc
name_in-is kind.Function x e = absurd cc
name_in-is (kind.Closing c) x e = absurd cc

named-is : (t : Token) (ts rest : List Token) (x : Bytes) (o : Option Bytes) → name_in t.kind ≡ o → named_by ts o ≡ Some (x, rest) → t ∷ ts ≡ at t.line (kind.Name x) ∷ rest
named-is t ts rest x None n e = absurd cc
named-is t ts rest x (Some y) n e =
    let p = some_is (y, ts) (x, rest) e in
    ap (λ (k : Kind). at t.line k ∷ ts) (name_in-is t.kind y n) ∙ ap (λ (z : Bytes × List Token). at t.line (kind.Name z.0) ∷ z.1) p

pub name_at-is : (ts rest : List Token) (x : Bytes) → name_at ts ≡ Some (x, rest) → (l : ℕ) × (ts ≡ at l (kind.Name x) ∷ rest)
name_at-is [] rest x e = absurd cc
name_at-is (t ∷ ts) rest x e = (t.line, named-is t ts rest x (name_in t.kind) refl e)

small-is : (z : ℤ) (n : ℕ) → small_number z ≡ Some n → (z ≡ pos n) × (n ≤ number_limit)
small-is (pos m) n e = elim (chosen (leb m number_limit) (Some m) None (Some n) e) [
  | inl h ↦ let s = some_is m n h.1 in (ap pos s, subst (λ (k : ℕ). k ≤ number_limit) s (leb-true m number_limit h.0))
  | inr h ↦ absurd (let f = h.1 in cc)
]
small-is (negsuc m) n e = absurd cc

number_token-is : (t : FormulaToken) (n : ℕ) → number_token t ≡ Some n → (t ≡ token.Number (pos n)) × (n ≤ number_limit)
number_token-is (token.Number z) n e = let h = small-is z n e in (ap token.Number h.0, h.1)
number_token-is (token.Mark k) n e = absurd cc
number_token-is (token.Base x) n e = absurd cc
number_token-is (token.Count m) n e = absurd cc
number_token-is (token.Operator o) n e = absurd cc
number_token-is token.Not n e = absurd cc
number_token-is token.Null n e = absurd cc
number_token-is token.True n e = absurd cc
number_token-is token.False n e = absurd cc
number_token-is token.Truth n e = absurd cc
number_token-is token.Store n e = absurd cc

number_in-is : (k : Kind) (n : ℕ) → number_in k ≡ Some n → (k ≡ kind.Part (token.Number (pos n))) × (n ≤ number_limit)
number_in-is (kind.Part t) n e = let h = number_token-is t n e in (ap kind.Part h.0, h.1)
number_in-is (kind.Name y) n e = absurd cc
number_in-is (kind.Cell y) n e = absurd cc
number_in-is kind.Function n e = absurd cc
number_in-is (kind.Closing c) n e = absurd cc

numbered-is : (t : Token) (ts rest : List Token) (n : ℕ) (o : Option ℕ) → number_in t.kind ≡ o → numbered_by ts o ≡ Some (n, rest) → (t ∷ ts ≡ at t.line (kind.Part (token.Number (pos n))) ∷ rest) × (n ≤ number_limit)
numbered-is t ts rest n None m e = absurd cc
numbered-is t ts rest n (Some k) m e =
    let p = some_is (k, ts) (n, rest) e in
    let h = number_in-is t.kind k m in
    let same : k ≡ n = ap (λ (z : ℕ × List Token). z.0) p in (
      ap (λ (j : Kind). at t.line j ∷ ts) h.0 ∙ ap (λ (z : ℕ × List Token). at t.line (kind.Part (token.Number (pos z.0))) ∷ z.1) p,
      subst (λ (j : ℕ). j ≤ number_limit) same h.1,
    )

pub number_at-is : (ts rest : List Token) (n : ℕ) → number_at ts ≡ Some (n, rest) → (l : ℕ) × (ts ≡ at l (kind.Part (token.Number (pos n))) ∷ rest) × (n ≤ number_limit)
number_at-is [] rest n e = absurd cc
number_at-is (t ∷ ts) rest n e = let h = numbered-is t ts rest n (number_in t.kind) refl e in (t.line, h.0, h.1)

pub is_word-is : (w : Bytes) (k : Kind) → is_word w k ≡ true → k ≡ kind.Name w
is_word-is w (kind.Name x) e = ap kind.Name (same_bytes x w e)
is_word-is w (kind.Cell x) e = absurd cc
is_word-is w (kind.Part t) e = absurd cc
is_word-is w kind.Function e = absurd cc
is_word-is w (kind.Closing c) e = absurd cc

pub word_at-is : (w : Bytes) (ts rest : List Token) → word_at w ts ≡ Some rest → (l : ℕ) × (ts ≡ at l (kind.Name w) ∷ rest)
word_at-is w [] rest e = absurd cc
word_at-is w (t ∷ ts) rest e = elim (chosen (is_word w t.kind) (Some ts) None (Some rest) e) [
  | inl h ↦ (t.line, ap (λ (k : Kind). at t.line k ∷ ts) (is_word-is w t.kind h.0) ∙ ap (λ (us : List Token). at t.line (kind.Name w) ∷ us) (some_is ts rest h.1))
  | inr h ↦ absurd (let f = h.1 in cc)
]
