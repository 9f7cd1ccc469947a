-- Facts are read exactly where the tokens are one.
use Rattle.std.proofs.Common.{◌≡◌, ℕ, true, not, List, [], ◌∷◌, ◌++◌, drop, Option, Some, None, refl, sym, ap, ◌∙◌, subst, inl, inr}
use Rattle.std.specs.Prelude.{codes}
use Rattle.c_lang.specs.Names.{Bytes}
use Rattle.c_lexer.proofs.Cases.{chosen, by_option, and_both}
use Rattle.terms.specs.Trees.{TermTree, FormTree}
use Rattle.formula_texts.specs.Grammar.{◌>>=◌}
use Rattle.formula_texts.proofs.OperatorLaws.{bind_some}
use Rattle.hint_texts.specs.declared.token.Token.{Token}
use Rattle.hint_texts.specs.declared.token.Kind.{Kind}
use Rattle.hint_texts.specs.declared.token.Kind.TheVariants as kind
use Rattle.hint_texts.specs.declared.token.Closing.{Closing}
use Rattle.hint_texts.specs.declared.token.Closing.TheVariants as closing
use Rattle.hint_texts.specs.declared.hints.Quantified.{Quantified}
use Rattle.hint_texts.specs.Grammar.{at, plain_fact, every, Quantifies, IsFact, IsForm, IsSum}
use Rattle.hint_texts.specs.Grammar as grammar
use Rattle.hint_texts.specs.Code.Reading.{name_in, cut, is_word, quantified_name, word_at, form_of, sum_of, every_of, plain_of, fact_by, fact_of, is_closing}
use Rattle.hint_texts.proofs.CutLaws.{is_free, cut_again, cut_is}
use Rattle.hint_texts.proofs.FrontLaws.{some_is, name_in-is, is_word-is, word_at-is}
use Rattle.hint_texts.proofs.FormulaLaws.{formula_free, form_again, sum_again, form_is, sum_is}

pub free_append : (c : Closing) (ts us : List Token) → is_free c ts ≡ true → is_free c us ≡ true → is_free c (ts ++ us) ≡ true
free_append c [] us first second = second
free_append c (t ∷ ts) us first second =
    let both = and_both (not (is_closing c t.kind)) (is_free c ts) first in
    rw (both.0, free_append c ts us both.1 second) refl

quantified_is : (ts : List Token) (x : Bytes) → quantified_name ts ≡ Some x → (l m : ℕ) × (rest : List Token) × (ts ≡ at l (kind.Name (codes "forall")) ∷ at m (kind.Name x) ∷ rest)
quantified_is [] x e = absurd cc
quantified_is (t ∷ []) x e = elim (chosen (is_word (codes "forall") t.kind) None None (Some x) e) [
  | inl h ↦ absurd (let f = h.1 in cc)
  | inr h ↦ absurd (let f = h.1 in cc)
]
quantified_is (t ∷ u ∷ us) x e = elim (chosen (is_word (codes "forall") t.kind) (name_in u.kind) None (Some x) e) [
  | inl h ↦ (
    t.line,
    u.line,
    us,
    ap (λ (k : Kind). at t.line k ∷ u ∷ us) (is_word-is (codes "forall") t.kind h.0) ∙ ap (λ (k : Kind). at t.line (kind.Name (codes "forall")) ∷ at u.line k ∷ us) (name_in-is u.kind x h.1),
  )
  | inr h ↦ absurd (let f = h.1 in cc)
]

quantified_none : (ts : List Token) → (Quantifies ts → ⊥) → quantified_name ts ≡ None
quantified_none ts never = by_option (λ (o : Option Bytes). quantified_name ts ≡ o → o ≡ None) (quantified_name ts) (λ none e. refl)
    (λ x some e. absurd (let q = quantified_is ts x e in never (q.0, q.1, x, q.2, q.3))) refl

quantified_again : (ts : List Token) (q : Quantifies ts) → quantified_name ts ≡ Some q.2
quantified_again ts q = ap quantified_name q.4

module _ (number : Bytes → ℕ) where
  every_again : (n o p : ℕ) (x : Bytes) (first last body : List Token) (lo hi : TermTree) (f : FormTree) → IsSum number first lo → IsSum number last hi → IsForm number body f
      → every_of number x (at n (kind.Name (codes "in")) ∷ first ++ (at o (kind.Closing closing.Range) ∷ last ++ (at p (kind.Closing closing.Colon) ∷ body))) ≡ Some (every x lo hi f)
  unfolding every_of
  every_again n o p x first last body lo hi f a b c =
      let up = cut_again closing.Range first (at o (kind.Closing closing.Range)) (last ++ (at p (kind.Closing closing.Colon) ∷ body)) (formula_free number closing.Range first _ a) refl in
      let down = cut_again closing.Colon last (at p (kind.Closing closing.Colon)) body (formula_free number closing.Colon last _ b) refl in
      rw (up, sum_again number first lo a, down, sum_again number last hi b, form_again number body f c) refl

  pub fact_again : (ts : List Token) (q : Quantified) → IsFact number ts q → fact_of number ts ≡ Some q
  fact_again ts q (grammar.plain _ f never form) = rw (quantified_none ts never, form_again number ts f form) refl
  fact_again ts q (grammar.quantified l m n o p x first last body lo hi f a b c) = every_again n o p x first last body lo hi f a b c

  every_is : (l m : ℕ) (x : Bytes) (ts : List Token) (q : Quantified) → every_of number x ts ≡ Some q → IsFact number (at l (kind.Name (codes "forall")) ∷ at m (kind.Name x) ∷ ts) q
  unfolding every_of
  every_is l m x ts q e =
      let w = bind_some (word_at (codes "in") ts) (λ us. cut closing.Range us >>= λ first. sum_of number first.0 >>= λ lo. cut closing.Colon first.1 >>= λ last. sum_of number last.0 >>= λ hi. form_of number last.1 >>= λ f. Some (every x lo hi f)) q e in
      let a = bind_some (cut closing.Range w.0) (λ first. sum_of number first.0 >>= λ lo. cut closing.Colon first.1 >>= λ last. sum_of number last.0 >>= λ hi. form_of number last.1 >>= λ f. Some (every x lo hi f)) q w.2 in
      let lo = bind_some (sum_of number a.0.0) (λ lo. cut closing.Colon a.0.1 >>= λ last. sum_of number last.0 >>= λ hi. form_of number last.1 >>= λ f. Some (every x lo hi f)) q a.2 in
      let b = bind_some (cut closing.Colon a.0.1) (λ last. sum_of number last.0 >>= λ hi. form_of number last.1 >>= λ f. Some (every x lo.0 hi f)) q lo.2 in
      let hi = bind_some (sum_of number b.0.0) (λ hi. form_of number b.0.1 >>= λ f. Some (every x lo.0 hi f)) q b.2 in
      let f = bind_some (form_of number b.0.1) (λ f. Some (every x lo.0 hi.0 f)) q hi.2 in
      let begun = word_at-is (codes "in") ts w.0 w.1 in
      let up = cut_is closing.Range w.0 a.0.0 a.0.1 a.1 in
      let down = cut_is closing.Colon a.0.1 b.0.0 b.0.1 b.1 in
      let whole = grammar.quantified l m begun.0 up.line down.line x a.0.0 b.0.0 b.0.1 lo.0 hi.0 f.0 (sum_is number a.0.0 lo.0 lo.1) (sum_is number b.0.0 hi.0 hi.1) (form_is number b.0.1 f.0 f.1) in
      let splits = begun.1 ∙ ap (λ (us : List Token). at begun.0 (kind.Name (codes "in")) ∷ us) (up.splits ∙ ap (λ (us : List Token). a.0.0 ++ (at up.line (kind.Closing closing.Range) ∷ us)) down.splits) in
      subst (λ (us : List Token). IsFact number (at l (kind.Name (codes "forall")) ∷ at m (kind.Name x) ∷ us) q) (sym splits)
      (subst (IsFact number _) (some_is (every x lo.0 hi.0 f.0) q f.2) whole)

  plain_is : (ts : List Token) (q : Quantified) → quantified_name ts ≡ None → plain_of number ts ≡ Some q → IsFact number ts q
  plain_is ts q none e =
      let f = bind_some (form_of number ts) (λ f. Some (plain_fact f)) q e in
      subst (IsFact number ts) (some_is (plain_fact f.0) q f.2) (grammar.plain ts f.0 (λ h. absurd (let g = sym none ∙ quantified_again ts h in cc)) (form_is number ts f.0 f.1))

  fact_by-is : (ts : List Token) (q : Quantified) (o : Option Bytes) → quantified_name ts ≡ o → fact_by number ts o ≡ Some q → IsFact number ts q
  fact_by-is ts q None n e = plain_is ts q n e
  fact_by-is ts q (Some x) n e =
      let h = quantified_is ts x n in
      let again : every_of number x h.2 ≡ Some q = sym (ap (λ (us : List Token). every_of number x (drop 2 us)) h.3) ∙ e in
      subst (λ (us : List Token). IsFact number us q) (sym h.3) (every_is h.0 h.1 x h.2 q again)

  pub fact_is : (ts : List Token) (q : Quantified) → fact_of number ts ≡ Some q → IsFact number ts q
  fact_is ts q e = fact_by-is ts q (quantified_name ts) refl e

  pub fact_free : (ts : List Token) (q : Quantified) → IsFact number ts q → is_free closing.Semicolon ts ≡ true
  fact_free ts q (grammar.plain _ f never form) = formula_free number closing.Semicolon ts _ form
  fact_free ts q (grammar.quantified l m n o p x first last body lo hi f a b c) =
      free_append closing.Semicolon first (at o (kind.Closing closing.Range) ∷ last ++ (at p (kind.Closing closing.Colon) ∷ body)) (formula_free number closing.Semicolon first _ a)
      (free_append closing.Semicolon last (at p (kind.Closing closing.Colon) ∷ body) (formula_free number closing.Semicolon last _ b) (formula_free number closing.Semicolon body _ c))
