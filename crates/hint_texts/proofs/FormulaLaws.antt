-- Forms and sums are read exactly where the tokens are one.
use Rattle.std.proofs.Common.{◌≡◌, ℕ, ◌≤◌, Bool, true, false, ◌&&◌, cond, ltb, pos, List, [], ◌∷◌, ◌++◌, Option, Some, None, refl, sym, ap, ◌∙◌, subst, arith, inl, inr}
use Rattle.std.specs.Prelude.{codes, bytes_eq}
use Rattle.std.proofs.lemmas.Bool.{ltb-true, lt-ltb}
use Rattle.c_lang.specs.Names.{Bytes}
use Rattle.c_lexer.proofs.Cases.{chosen, by_option, and_both, same_bytes}
use Rattle.formula_texts.specs.declared.token.Token.{Token as FormulaToken}
use Rattle.formula_texts.specs.declared.token.Token.TheVariants as token
use Rattle.formula_texts.specs.declared.token.Mark.TheVariants as mark
use Rattle.formula_texts.specs.declared.value.Value.{Value}
use Rattle.formula_texts.specs.Grammar.{◌>>=◌}
use Rattle.formula_texts.specs.Texts.{AreOf}
use Rattle.formula_texts.specs.Code.Reading.{value_in}
use Rattle.formula_texts.proofs.OperatorLaws.{bind_some}
use Rattle.formula_texts.proofs.TokenLaws.{value_again, value_is}
use Rattle.formula_texts.specs.declared.value.Value.TheVariants as value
use Rattle.formula_texts.specs.Grammar.{term_in, form_in}
use Rattle.terms.specs.Trees.{TermTree, FormTree}
use Rattle.hint_texts.specs.declared.token.Token.{Token}
use Rattle.hint_texts.specs.declared.token.Kind.{Kind}
use Rattle.hint_texts.specs.declared.token.Kind.TheVariants as kind
use Rattle.hint_texts.specs.declared.token.Closing.{Closing}
use Rattle.hint_texts.specs.Parts.{AreParts}
use Rattle.hint_texts.specs.Parts as row
use Rattle.hint_texts.specs.Grammar.{bracket_limit, operator_limit, at, mark_kind, entry_base, Opens, IsPart, IsFormula, IsForm, IsSum}
use Rattle.hint_texts.specs.Grammar as grammar
use Rattle.hint_texts.specs.Code.Reading.{name_at, mark_at, opens, entry_at, named, function_at, part_by, part_at, parts_of, value_of, form_of, sum_of}
use Rattle.hint_texts.proofs.PartLaws.{IsRead, Again, Sound, read_again, read_is}
use Rattle.hint_texts.proofs.CutLaws.{is_free}
use Rattle.hint_texts.proofs.FrontLaws.{some_is, mark_at-is, name_at-is, opens_is, opens_again}

-- ---- values

pub value_found : (parts : List FormulaToken) (x : Value) → AreOf bracket_limit operator_limit parts x → value_in bracket_limit operator_limit parts ≡ Some x
value_found parts x is = value_again bracket_limit operator_limit parts x is

pub value_missing : (parts : List FormulaToken) → ((x : Value) → AreOf bracket_limit operator_limit parts x → ⊥) → value_in bracket_limit operator_limit parts ≡ None
value_missing parts never = by_option (λ (o : Option Value). value_in bracket_limit operator_limit parts ≡ o → o ≡ None) (value_in bracket_limit operator_limit parts)
    (λ e f. refl) (λ x e f. absurd (never x (value_is bracket_limit operator_limit parts x e))) refl

-- ---- the tokens of a formula

entry_test : (x : Bytes) (ts : List Token) → x ≡ codes "pre" → opens ts ≡ true → (bytes_eq x (codes "pre") && opens ts) ≡ true
entry_test x ts same open_now = rw (same, open_now) refl

not_entry : (x : Bytes) (ts : List Token) → (x ≡ codes "pre" → Opens ts → ⊥) → named x ts ≡ Some (token.Base x, ts)
not_entry x ts never = by_case (bytes_eq x (codes "pre") && opens ts) refl
  where
    by_case : (b : Bool) → (bytes_eq x (codes "pre") && opens ts) ≡ b → cond b (entry_at ts) (Some (token.Base x, ts)) ≡ Some (token.Base x, ts)
    by_case true e = let both = and_both (bytes_eq x (codes "pre")) (opens ts) e in absurd (never (same_bytes x (codes "pre") both.0) (opens_is ts both.1))
    by_case false e = refl

pub parts_again : (number : Bytes → ℕ) → Again (IsPart number) (part_at number)
parts_again number rest front t (grammar.part l _) = (omega arith, refl)
parts_again number rest front t (grammar.cell l x) = (omega arith, refl)
parts_again number rest front t (grammar.name l x never) = (omega arith, not_entry x rest never)
parts_again number rest front t (grammar.entry l m n o g) = (omega arith, refl)
parts_again number rest front t (grammar.function l m f some) = (omega arith, rw (lt-ltb 0 (number f) some) refl)

module _ (number : Bytes → ℕ) where
  Reads : ℕ → Kind → List Token → FormulaToken × List Token → Type 0
  Reads l k ts x = IsRead (IsPart number) (at l k ∷ ts) x.0 x.1

  entry_read : (l : ℕ) (ts : List Token) (x : FormulaToken × List Token) → entry_at ts ≡ Some x → Reads l (kind.Name (codes "pre")) ts x
  unfolding Reads
  entry_read l ts x e =
      let a = bind_some (mark_at mark.RoundOpen ts) (λ us. name_at us >>= λ g. mark_at mark.RoundClose g.1 >>= λ vs. Some (token.Base (entry_base g.0), vs)) x e in
      let b = bind_some (name_at a.0) (λ g. mark_at mark.RoundClose g.1 >>= λ vs. Some (token.Base (entry_base g.0), vs)) x a.2 in
      let c = bind_some (mark_at mark.RoundClose b.0.1) (λ vs. Some (token.Base (entry_base b.0.0), vs)) x b.2 in
      let i = mark_at-is mark.RoundOpen ts a.0 a.1 in
      let j = name_at-is a.0 b.0.1 b.0.0 b.1 in
      let k = mark_at-is mark.RoundClose b.0.1 c.0 c.1 in
      let p = some_is (token.Base (entry_base b.0.0), c.0) x c.2 in
      let first = at l (kind.Name (codes "pre")) in
      subst (λ (y : FormulaToken × List Token). IsRead (IsPart number) (first ∷ ts) y.0 y.1) p (record {
        front = first ∷ at i.0 (mark_kind mark.RoundOpen) ∷ at j.0 (kind.Name b.0.0) ∷ at k.0 (mark_kind mark.RoundClose) ∷ [];
        splits = ap (λ (us : List Token). first ∷ us) (i.1 ∙ ap (λ (us : List Token). at i.0 (mark_kind mark.RoundOpen) ∷ us) (j.1 ∙ ap (λ (us : List Token). at j.0 (kind.Name b.0.0) ∷ us) k.1));
        is = grammar.entry l i.0 j.0 k.0 b.0.0;
      })

  function_read : (l : ℕ) (ts : List Token) (x : FormulaToken × List Token) → function_at number ts ≡ Some x → Reads l kind.Function ts x
  unfolding Reads
  function_read l ts x e =
      let a = bind_some (name_at ts) (λ f. cond (ltb 0 (number f.0)) (Some (token.Number (pos (number f.0)), f.1)) None) x e in
      let j = name_at-is ts a.0.1 a.0.0 a.1 in
      elim (chosen (ltb 0 (number a.0.0)) (Some (token.Number (pos (number a.0.0)), a.0.1)) None (Some x) a.2) [
        | inl h ↦
            let some : 1 ≤ number a.0.0 = ltb-true 0 (number a.0.0) h.0 in
            subst (λ (y : FormulaToken × List Token). IsRead (IsPart number) (at l kind.Function ∷ ts) y.0 y.1) (some_is (token.Number (pos (number a.0.0)), a.0.1) x h.1) (record {
              front = at l kind.Function ∷ at j.0 (kind.Name a.0.0) ∷ [];
              splits = ap (λ (us : List Token). at l kind.Function ∷ us) j.1;
              is = grammar.function l j.0 a.0.0 some;
            })
        | inr h ↦ absurd (let f = h.1 in cc)
      ]

  named_read : (l : ℕ) (x : Bytes) (ts : List Token) (y : FormulaToken × List Token) → named x ts ≡ Some y → Reads l (kind.Name x) ts y
  unfolding Reads
  named_read l x ts y e = elim (chosen (bytes_eq x (codes "pre") && opens ts) (entry_at ts) (Some (token.Base x, ts)) (Some y) e) [
    | inl h ↦
        let same = same_bytes x (codes "pre") (and_both (bytes_eq x (codes "pre")) (opens ts) h.0).0 in
        subst (λ (z : Bytes). IsRead (IsPart number) (at l (kind.Name z) ∷ ts) y.0 y.1) (sym same) (entry_read l ts y h.1)
    | inr h ↦ subst (λ (z : FormulaToken × List Token). IsRead (IsPart number) (at l (kind.Name x) ∷ ts) z.0 z.1) (some_is (token.Base x, ts) y h.1)
        (record { front = at l (kind.Name x) ∷ []; splits = refl; is = grammar.name l x (λ same open_now. let f = entry_test x ts same (opens_again ts open_now) in absurd (let g = sym f ∙ h.0 in cc)) })
  ]

  part_read : (l : ℕ) (k : Kind) (ts : List Token) (x : FormulaToken × List Token) → part_by number k ts ≡ Some x → Reads l k ts x
  unfolding Reads
  part_read l (kind.Part t) ts x e = subst (λ (y : FormulaToken × List Token). IsRead (IsPart number) (at l (kind.Part t) ∷ ts) y.0 y.1) (some_is (t, ts) x e) (record { front = at l (kind.Part t) ∷ []; splits = refl; is = grammar.part l t })
  part_read l (kind.Cell b) ts x e = subst (λ (y : FormulaToken × List Token). IsRead (IsPart number) (at l (kind.Cell b) ∷ ts) y.0 y.1) (some_is (token.Base b, ts) x e) (record { front = at l (kind.Cell b) ∷ []; splits = refl; is = grammar.cell l b })
  part_read l (kind.Name b) ts x e = named_read l b ts x e
  part_read l kind.Function ts x e = function_read l ts x e
  part_read l (kind.Closing c) ts x e = absurd cc

  pub parts_are : Sound (IsPart number) (part_at number)
  unfolding Reads
  parts_are [] rest t e = absurd cc
  parts_are (x ∷ xs) rest t e = part_read x.line x.kind xs (t, rest) e

  -- no end is in a formula
  part_free : (c : Closing) (rest front : List Token) (t : FormulaToken) → IsPart number rest front t → is_free c (front ++ rest) ≡ is_free c rest
  part_free c rest front t (grammar.part l _) = refl
  part_free c rest front t (grammar.cell l x) = refl
  part_free c rest front t (grammar.name l x never) = refl
  part_free c rest front t (grammar.entry l m n o g) = refl
  part_free c rest front t (grammar.function l m f some) = refl

  parts_free : (c : Closing) (ts : List Token) (parts : List FormulaToken) → AreParts (IsPart number) ts parts → is_free c ts ≡ true
  parts_free c ts parts row.ends = refl
  parts_free c ts parts (row.goes front rest t more is are) = part_free c rest front t is ∙ parts_free c rest more are

  pub formula_free : (c : Closing) (ts : List Token) (x : Value) → IsFormula number ts x → is_free c ts ≡ true
  formula_free c ts x h = parts_free c ts h.parts h.cut

  -- ---- forms and sums

  formula_again : (ts : List Token) (x : Value) → IsFormula number ts x → value_of number ts ≡ Some x
  formula_again ts x h = rw (read_again (IsPart number) (part_at number) (parts_again number) ts h.parts h.cut) (value_found h.parts x h.value)

  formula_is : (ts : List Token) (x : Value) → value_of number ts ≡ Some x → IsFormula number ts x
  formula_is ts x e =
      let a = bind_some (parts_of number ts) (value_in bracket_limit operator_limit) x e in
      record { parts = a.0; cut = read_is (IsPart number) (part_at number) parts_are ts a.0 a.1; value = value_is bracket_limit operator_limit a.0 x a.2 }

  form_value : (x : Value) (f : FormTree) → form_in x ≡ Some f → x ≡ value.Form f
  form_value (value.Form g) f e = cc
  form_value (value.Term t) f e = absurd cc

  term_value : (x : Value) (t : TermTree) → term_in x ≡ Some t → x ≡ value.Term t
  term_value (value.Term u) t e = cc
  term_value (value.Form f) t e = absurd cc

  pub form_again : (ts : List Token) (f : FormTree) → IsForm number ts f → form_of number ts ≡ Some f
  form_again ts f h = rw (formula_again ts (value.Form f) h) refl

  pub sum_again : (ts : List Token) (t : TermTree) → IsSum number ts t → sum_of number ts ≡ Some t
  sum_again ts t h = rw (formula_again ts (value.Term t) h) refl

  pub form_is : (ts : List Token) (f : FormTree) → form_of number ts ≡ Some f → IsForm number ts f
  form_is ts f e =
      let a = bind_some (value_of number ts) form_in f e in
      subst (IsFormula number ts) (form_value a.0 f a.2) (formula_is ts a.0 a.1)

  pub sum_is : (ts : List Token) (t : TermTree) → sum_of number ts ≡ Some t → IsSum number ts t
  sum_is ts t e =
      let a = bind_some (value_of number ts) term_in t e in
      subst (IsFormula number ts) (term_value a.0 t a.2) (formula_is ts a.0 a.1)
