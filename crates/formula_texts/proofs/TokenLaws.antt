-- Whole lists of tokens: what is read is what the grammar has.
use Rattle.std.proofs.Common.{◌≡◌, ℕ, ◌+◌, ◌≤◌, leb, max, true, List, [], ◌∷◌, ◌++◌, Option, Some, None, refl, sym, ap, ◌∙◌, subst, append-nil, arith, inl, inr}
use Rattle.std.proofs.lemmas.Bool.{le-leb, leb-true}
use Rattle.c_lexer.proofs.Cases.{chosen, and_both}
use Rattle.terms.specs.declared.sym.Sym.{Sym}
use Rattle.formula_texts.specs.declared.token.Token.{Token}
use Rattle.formula_texts.specs.declared.token.Token.TheVariants as token
use Rattle.formula_texts.specs.declared.value.Value.{Value}
use Rattle.formula_texts.specs.declared.size.Size.{Size}
use Rattle.formula_texts.specs.Grammar.{NameText, plain, counted, Tree, number, negative, null, always, never, name, element, truth, brackets, quotient, remainder, negation, denial, joined, Row, array, stored, name_tokens, tokens_of, IsGrouped, size_of, row_size, sym_of, value_of}
use Rattle.formula_texts.specs.Texts.{IsSmall, AreOf}
use Rattle.formula_texts.specs.Code.Reading.{Found, name_after, height_limit, is_small, ended_by, value_in, whole_name, name_by, name_in}
use Rattle.formula_texts.proofs.OperatorLaws.{bind_some}
use Rattle.formula_texts.proofs.Complete.{expr, found, reads, binds_something, below, below_row, closes}
use Rattle.formula_texts.proofs.Sound.{reads_trees, name_after-is}

-- ---- heights

mutual
  pub height_is_small : (t : Tree) → (size_of t).height ≤ 1 + (size_of t).brackets + (size_of t).operators
  height_is_small (number n) = omega arith
  height_is_small (negative n) = omega arith
  height_is_small null = omega arith
  height_is_small always = omega arith
  height_is_small never = omega arith
  height_is_small (name x) = omega arith
  height_is_small (element a i) = let h = row_is_small a in let k = height_is_small i in omega arith
  height_is_small (truth f) = let h = height_is_small f in omega arith
  height_is_small (brackets t) = let h = height_is_small t in omega arith
  height_is_small (quotient t u) = let h = height_is_small t in let k = height_is_small u in omega arith
  height_is_small (remainder t u) = let h = height_is_small t in let k = height_is_small u in omega arith
  height_is_small (negation t) = let h = height_is_small t in omega arith
  height_is_small (denial f) = let h = height_is_small f in omega arith
  height_is_small (joined a o b) = let h = height_is_small a in let k = height_is_small b in omega arith

  row_is_small : (a : Row) → (row_size a).height ≤ max 1 ((row_size a).brackets + (row_size a).operators)
  row_is_small (array x) = omega arith
  row_is_small (stored a i t) = let h = row_is_small a in let k = height_is_small i in let l = height_is_small t in omega arith

-- ---- forms and terms

read_whole : (t : Tree) (v : Value) (d : ℕ) → IsGrouped t → value_of t ≡ Some v → (size_of t).height ≤ d → expr d 1 (tokens_of t) ≡ Some (found t v [])
read_whole t v d g e high =
    ap (expr d 1) (sym (append-nil (tokens_of t)))
    ∙ reads t v d 1 [] (Some (found t v [])) g e high (binds_something t) (record { no_index = refl; no_count = refl; looser = tt })
    (λ k lt. closes (below d) (below_row d) k d 1 (found t v []) tt)

small_again : (b o : ℕ) (s : Size) → IsSmall b o s → is_small b o s ≡ true
small_again b o s h = rw (le-leb _ _ h.brackets, le-leb _ _ h.operators) refl

small_is : (b o : ℕ) (s : Size) → is_small b o s ≡ true → IsSmall b o s
small_is b o s h = let both = and_both (leb s.brackets b) (leb s.operators o) h in record { brackets = leb-true _ _ both.0; operators = leb-true _ _ both.1 }

within : (b o : ℕ) (t : Tree) → IsSmall b o (size_of t) → (size_of t).height ≤ height_limit b o
within b o t h = omega (arith, height_is_small t, h.brackets, h.operators)

pub value_again : (b o : ℕ) (ts : List Token) (x : Value) → AreOf b o ts x → value_in b o ts ≡ Some x
unfolding value_in
value_again b o ts x h =
    let d = height_limit b o in
    let whole = subst (λ (us : List Token). expr d 1 us ≡ Some (found h.tree x [])) h.tokens (read_whole h.tree x d h.grouped h.value_is (within b o h.tree h.small)) in
    rw (whole, small_again b o (size_of h.tree) h.small) refl

ended-is : (b o : ℕ) (x : Found) (rest : List Token) (v : Value) → ended_by b o x rest ≡ Some v → (rest ≡ []) × (is_small b o x.size ≡ true) × (x.value ≡ v)
ended-is b o x [] v e =
    elim (chosen (is_small b o x.size) (Some x.value) None (Some v) e) [
      | inl h ↦ (refl, h.0, let f = h.1 in cc)
      | inr h ↦ absurd (let f = h.1 in cc)
    ]
ended-is b o x (t ∷ ts) v e = absurd cc

pub value_is : (b o : ℕ) (ts : List Token) (x : Value) → value_in b o ts ≡ Some x → AreOf b o ts x
unfolding value_in
value_is b o ts x q =
    let a = bind_some (expr (height_limit b o) 1 ts) (λ f. ended_by b o f f.rest) x q in
    let p = (reads_trees (height_limit b o) 1 ts a.0 (omega arith) a.1).part in
    let h = ended-is b o a.0 a.0.rest x a.2 in
    record {
      tree = p.tree;
      tokens = sym (p.parts ∙ ap (λ (r : List Token). tokens_of p.tree ++ r) h.0 ∙ append-nil (tokens_of p.tree));
      grouped = p.grouped;
      small = subst (IsSmall b o) p.size_is (small_is b o a.0.size h.1);
      value_is = p.value_is ∙ ap (λ (v : Value). Some v) h.2;
    }

abbrev no_value : {A : Type 0} (o : Option A) (x : A) → o ≡ None → o ≡ Some x → ⊥
no_value o x n s = let f = sym n ∙ s in cc

pub value_never : (b o : ℕ) (ts : List Token) (x : Value) → value_in b o ts ≡ None → AreOf b o ts x → ⊥
value_never b o ts x e h = no_value (value_in b o ts) x e (value_again b o ts x h)

pub one_value : (b o : ℕ) (ts : List Token) (x y : Value) → AreOf b o ts x → AreOf b o ts y → x ≡ y
one_value b o ts x y h k = let f = sym (value_again b o ts x h) ∙ value_again b o ts y k in cc

-- ---- names

pub name_again : (n : NameText) → name_in (name_tokens n) ≡ Some (sym_of n)
unfolding name_in
name_again (plain x) = refl
name_again (counted x n) = refl

whole_name-is : (x : Sym × List Token) (s : Sym) → whole_name x ≡ Some s → (x.0 ≡ s) × (x.1 ≡ [])
whole_name-is (x, []) s e = (cc, refl)
whole_name-is (x, t ∷ ts) s e = absurd cc

name_by-is : (t : Token) (ts : List Token) (s : Sym) → name_by t ts ≡ Some s → (n : NameText) × (name_tokens n ≡ t ∷ ts) × (sym_of n ≡ s)
name_by-is (token.Base x) ts s e =
    let n = name_after-is x ts in
    let h = whole_name-is (name_after x ts) s e in
    (n.0, sym (n.2 ∙ ap (λ (r : List Token). name_tokens n.0 ++ r) h.1 ∙ append-nil (name_tokens n.0)), n.1 ∙ h.0)
name_by-is (token.Count n) ts s e = absurd cc
name_by-is (token.Number z) ts s e = absurd cc
name_by-is (token.Operator o) ts s e = absurd cc
name_by-is (token.Mark m) ts s e = absurd cc
name_by-is token.Not ts s e = absurd cc
name_by-is token.Null ts s e = absurd cc
name_by-is token.True ts s e = absurd cc
name_by-is token.False ts s e = absurd cc
name_by-is token.Truth ts s e = absurd cc
name_by-is token.Store ts s e = absurd cc

pub name_is : (ts : List Token) (s : Sym) → name_in ts ≡ Some s → (n : NameText) × (name_tokens n ≡ ts) × (sym_of n ≡ s)
unfolding name_in
name_is [] s e = absurd cc
name_is (t ∷ ts) s e = name_by-is t ts s e
