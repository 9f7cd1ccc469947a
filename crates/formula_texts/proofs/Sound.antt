-- What is read is in the grammar.
use Rattle.std.proofs.Common.{◌≡◌, ℕ, ℤ, pos, negsuc, zero, suc, ◌+◌, ◌<◌, ◌≤◌, cond, ltb, max, List, [], ◌∷◌, ◌++◌, Option, Some, None, refl, sym, ap, ◌∙◌, subst, append_assoc, arith, inl, inr}
use Rattle.std.specs.Prelude.{IfSome, neg_ℤ}
use Rattle.std.proofs.lemmas.Bool.{ltb-true, ltb-false}
use Rattle.c_lang.specs.Names.{Bytes}
use Rattle.c_lexer.proofs.Cases.{chosen}
use Rattle.terms.specs.declared.sym.Sym.{Sym}
use Rattle.terms.specs.Trees as tree
use Rattle.terms.specs.Trees.{ArrayTree}
use Rattle.formula_texts.specs.declared.token.Token.{Token}
use Rattle.formula_texts.specs.declared.token.Token.TheVariants as token
use Rattle.formula_texts.specs.declared.token.Operator.{Operator}
use Rattle.formula_texts.specs.declared.token.Operator.TheVariants as op
use Rattle.formula_texts.specs.declared.token.Mark.{Mark}
use Rattle.formula_texts.specs.declared.token.Mark.TheVariants as mark
use Rattle.formula_texts.specs.declared.value.Value.{Value}
use Rattle.formula_texts.specs.declared.value.Value.TheVariants as value
use Rattle.formula_texts.specs.declared.size.Size.{Size}
use Rattle.formula_texts.specs.Grammar as grammar
use Rattle.formula_texts.specs.Grammar.{NameText, plain, counted, Tree, number, negative, null, always, never, name, element, truth, brackets, quotient, remainder, negation, denial, joined, Row, array, stored, name_tokens, tokens_of, row_tokens, level, binds, IsGrouped, IsGroupedRow, grown, larger, size_of, row_size, ◌>>=◌, sym_of, of_terms, apply, value_of, row_of}
use Rattle.formula_texts.specs.Code.Reading.{Found, FoundRow, Parse, ParseRow, after, natural, numbered, name_after, next_operator, leaf, number_leaf, around, closed, pair, indexed, store, array_leaf, join, index_at, named_by, bracket_by, bracket, store_at, element_at, negative_leaf, operator_by, open_by, truth_at, not_at, operand_by, operand, array_by, array_at, more_by, more, readers}
use Rattle.formula_texts.proofs.OperatorLaws.{level_small, bind_some, after-is, next-is}
use Rattle.formula_texts.proofs.Complete.{height_positive, expr, row}

some_is : {A : Type 0} (x y : A) → Some x ≡ Some y → x ≡ y
some_is x y e = cc

-- which tree was read from the front
pub record IsPart (d m : ℕ) (ts : List Token) (x : Found) : Type 0 where
  pub tree : Tree
  pub grouped : IsGrouped tree
  pub high : (size_of tree).height ≤ d
  pub least : m ≤ binds tree
  pub parts : ts ≡ tokens_of tree ++ x.rest
  pub value_is : value_of tree ≡ Some x.value
  pub size_is : x.size ≡ size_of tree

-- up to an operator below the level
pub record IsRead (d m : ℕ) (ts : List Token) (x : Found) : Type 0 where
  pub part : IsPart d m ts x
  pub stops : IfSome (next_operator x.rest) (λ y. level y.0 < m)

pub record IsRow (d : ℕ) (ts : List Token) (x : FoundRow) : Type 0 where
  pub tree : Row
  pub grouped : IsGroupedRow tree
  pub high : (row_size tree).height ≤ d
  pub parts : ts ≡ row_tokens tree ++ x.rest
  pub value_is : row_of tree ≡ Some x.row
  pub size_is : x.size ≡ row_size tree

-- a part up to a mark
record IsClosed (d : ℕ) (m : Mark) (ts : List Token) (x : Found) : Type 0 where
  pub tree : Tree
  pub grouped : IsGrouped tree
  pub high : (size_of tree).height ≤ d
  pub parts : ts ≡ tokens_of tree ++ (token.Mark m ∷ x.rest)
  pub value_is : value_of tree ≡ Some x.value
  pub size_is : x.size ≡ size_of tree

abbrev Reads : (ℕ → Parse) → ℕ → Type 0
Reads inner d = (m : ℕ) (ts : List Token) (x : Found) → m ≤ 7 → inner m ts ≡ Some x → IsRead d m ts x

abbrev ReadsRow : ParseRow → ℕ → Type 0
ReadsRow inner_row d = (ts : List Token) (x : FoundRow) → inner_row ts ≡ Some x → IsRow d ts x

-- an operand, behind which no operator comes that binds more tightly than its own
abbrev IsOperand : ℕ → ℕ → List Token → Found → Type 0
IsOperand d m ts x = (p : IsPart d m ts x) × IfSome (next_operator x.rest) (λ y. level y.0 ≤ binds p.tree)

small_at : (n : ℕ) (o : Option (Operator × List Token)) → 7 ≤ n → IfSome o (λ y. level y.0 ≤ n)
small_at n None h = tt
small_at n (Some x) h = omega (arith, level_small x.0)

weaker : (d m : ℕ) (ts : List Token) (x : Found) → m ≤ 7 → IsPart d 7 ts x → IsOperand d m ts x
weaker d m ts x le p = (
  record { tree = p.tree; grouped = p.grouped; high = p.high; least = omega (arith, p.least); parts = p.parts; value_is = p.value_is; size_is = p.size_is },
  small_at (binds p.tree) (next_operator x.rest) p.least,
)

stop_before : (l : ℕ) (o : Option (Operator × List Token)) → IfSome o (λ y. level y.0 < l) → IfSome o (λ y. level y.0 ≤ l)
stop_before l None h = tt
stop_before l (Some x) h = omega arith

-- ---- names and numbers

pub name_after-is : (x : Bytes) (ts : List Token) → (n : NameText) × (sym_of n ≡ (name_after x ts).0) × (token.Base x ∷ ts ≡ name_tokens n ++ (name_after x ts).1)
name_after-is x [] = (plain x, refl, refl)
name_after-is x (token.Count n ∷ ts) = (counted x n, refl, refl)
name_after-is x (token.Base y ∷ ts) = (plain x, refl, refl)
name_after-is x (token.Number z ∷ ts) = (plain x, refl, refl)
name_after-is x (token.Operator o ∷ ts) = (plain x, refl, refl)
name_after-is x (token.Mark m ∷ ts) = (plain x, refl, refl)
name_after-is x (token.Not ∷ ts) = (plain x, refl, refl)
name_after-is x (token.Null ∷ ts) = (plain x, refl, refl)
name_after-is x (token.True ∷ ts) = (plain x, refl, refl)
name_after-is x (token.False ∷ ts) = (plain x, refl, refl)
name_after-is x (token.Truth ∷ ts) = (plain x, refl, refl)
name_after-is x (token.Store ∷ ts) = (plain x, refl, refl)

natural-is : (z y : ℤ) → natural z ≡ Some y → (n : ℕ) × (z ≡ pos n) × (y ≡ pos n)
natural-is (pos n) y e = (n, refl, sym (some_is (pos n) y e))
natural-is (negsuc n) y e = absurd cc

numbered-is : (t : Token) (y : ℤ) → numbered t ≡ Some y → (n : ℕ) × (t ≡ token.Number (pos n)) × (y ≡ pos n)
numbered-is (token.Number z) y e = let h = natural-is z y e in (h.0, ap token.Number h.1, h.2)
numbered-is (token.Base x) y e = absurd cc
numbered-is (token.Count n) y e = absurd cc
numbered-is (token.Operator o) y e = absurd cc
numbered-is (token.Mark m) y e = absurd cc
numbered-is token.Not y e = absurd cc
numbered-is token.Null y e = absurd cc
numbered-is token.True y e = absurd cc
numbered-is token.False y e = absurd cc
numbered-is token.Truth y e = absurd cc
numbered-is token.Store y e = absurd cc

leaf_part : (d : ℕ) (t : Tree) (ts : List Token) (rest : List Token) (v : Value) (x : Found) → IsGrouped t → (size_of t).height ≤ suc d → 7 ≤ binds t → ts ≡ tokens_of t ++ rest → value_of t ≡ Some v → grammar.leaf_size ≡ size_of t → Some (leaf v rest) ≡ Some x → IsPart (suc d) 7 ts x
leaf_part d t ts rest v x g high least parts e s q =
    subst (λ (y : Found). IsPart (suc d) 7 ts y) (some_is _ x q) (record { tree = t; grouped = g; high = high; least = least; parts = parts; value_is = e; size_is = s })

closed-is : (m : Mark) (y z : Found) → closed m y ≡ Some z → (y.rest ≡ token.Mark m ∷ z.rest) × (y.value ≡ z.value) × (y.size ≡ z.size)
closed-is m y z e =
    let a = bind_some (after m y.rest) (λ rest. Some (record { value = y.value; size = y.size; rest = rest })) z e in
    let s = some_is _ z a.2 in (
      after-is m y.rest a.0 a.1 ∙ ap (λ (f : Found). token.Mark m ∷ f.rest) s,
      ap (λ (f : Found). f.value) s,
      ap (λ (f : Found). f.size) s,
    )

-- ---- by one level, where inner and inner_row read trees

module _ (inner : ℕ → Parse) (inner_row : ParseRow) (d : ℕ) (reads : Reads inner d) (reads_row : ReadsRow inner_row d) where
  closed-read : (m : Mark) (ts : List Token) (y z : Found) → inner 1 ts ≡ Some y → closed m y ≡ Some z → IsClosed d m ts z
  closed-read m ts y z r c =
      let i = (reads 1 ts y (omega arith) r).part in
      let h = closed-is m y z c in
      record {
        tree = i.tree;
        grouped = i.grouped;
        high = i.high;
        parts = i.parts ∙ ap (λ (us : List Token). tokens_of i.tree ++ us) h.0;
        value_is = i.value_is ∙ ap (λ (v : Value). Some v) h.1;
        size_is = sym h.2 ∙ i.size_is;
      }

  -- the index of an array
  index-read : (a : FoundRow) (r : Row) (ts : List Token) (x : Found) → IsGroupedRow r → (row_size r).height ≤ max 1 d → row_of r ≡ Some a.row → a.size ≡ row_size r
      → index_at inner inner_row a ts ≡ Some x → IsPart (suc d) 7 (row_tokens r ++ (token.Mark mark.SquareOpen ∷ ts)) x
  index-read a r ts x g high e s q =
      let p = bind_some (inner 1 ts) (λ i. closed mark.SquareClose i >>= indexed a) x q in
      let c = bind_some (closed mark.SquareClose p.0) (indexed a) x p.2 in
      let i = closed-read mark.SquareClose ts p.0 c.0 p.1 c.1 in
      let w = bind_some (grammar.element_of a.row c.0.value) (λ made. Some (record { value = made; size = larger (grown 0 0 a.size) (grown 1 1 c.0.size); rest = c.0.rest })) x c.2 in
      let front = token.Mark mark.SquareOpen ∷ tokens_of i.tree ++ (token.Mark mark.SquareClose ∷ []) in
      subst (λ (y : Found). IsPart (suc d) 7 (row_tokens r ++ (token.Mark mark.SquareOpen ∷ ts)) y) (some_is _ x w.2) (record {
        tree = element r i.tree;
        grouped = (g, i.grouped);
        high = omega (arith, high, i.high, height_positive i.tree);
        least = omega arith;
        parts = ap (λ (us : List Token). row_tokens r ++ (token.Mark mark.SquareOpen ∷ us)) (i.parts ∙ sym (append_assoc (tokens_of i.tree) (token.Mark mark.SquareClose ∷ []) c.0.rest)) ∙ sym (append_assoc (row_tokens r) front c.0.rest);
        value_is = ap (λ (o : Option ArrayTree). o >>= λ z. value_of i.tree >>= grammar.element_of z) e ∙ ap (λ (o : Option Value). o >>= grammar.element_of a.row) i.value_is ∙ w.1;
        size_is = ap (λ (z : Size). larger (grown 0 0 z) (grown 1 1 c.0.size)) s ∙ ap (λ (z : Size). larger (grown 0 0 (row_size r)) (grown 1 1 z)) i.size_is;
      })

  named-read : (x : Bytes) (ts : List Token) (y : Found) (n : NameText) → sym_of n ≡ (name_after x ts).0 → token.Base x ∷ ts ≡ name_tokens n ++ (name_after x ts).1
      → (o : Option (List Token)) → after mark.SquareOpen (name_after x ts).1 ≡ o → named_by inner inner_row (name_after x ts) o ≡ Some y → IsPart (suc d) 7 (token.Base x ∷ ts) y
  named-read x ts y n same parts None e q =
      leaf_part d (name n) (token.Base x ∷ ts) (name_after x ts).1 (value.Term (tree.name (name_after x ts).0)) y tt (omega arith) (omega arith) parts (ap (λ (s : Sym). Some (value.Term (tree.name s))) same) refl q
  named-read x ts y n same parts (Some inside) e q =
      let begun = after-is mark.SquareOpen (name_after x ts).1 inside e in
      let p = index-read (array_leaf (name_after x ts)) (array n) inside y tt (omega arith) (ap (λ (s : Sym). Some (tree.array s)) same) refl q in
      subst (λ (us : List Token). IsPart (suc d) 7 us y) (sym (parts ∙ ap (λ (us : List Token). name_tokens n ++ us) begun)) p

  -- ---- brackets

  around_brackets-read : (ts : List Token) (x y z : Found) → inner 1 ts ≡ Some x → closed mark.RoundClose x ≡ Some y → around 1 0 (λ v. Some v) y ≡ Some z → IsPart (suc d) 7 (token.Mark mark.RoundOpen ∷ ts) z
  around_brackets-read ts x y z r c q =
      let i = closed-read mark.RoundClose ts x y r c in
      subst (λ (f : Found). IsPart (suc d) 7 (token.Mark mark.RoundOpen ∷ ts) f) (some_is _ z q) (record {
        tree = brackets i.tree;
        grouped = i.grouped;
        high = omega (arith, i.high);
        least = omega arith;
        parts = ap (λ (us : List Token). token.Mark mark.RoundOpen ∷ us) (i.parts ∙ sym (append_assoc (tokens_of i.tree) (token.Mark mark.RoundClose ∷ []) y.rest));
        value_is = i.value_is;
        size_is = ap (grown 1 0) i.size_is;
      })

  -- the tokens of two parts with a token between
  two_parts : (k : Token) (ts us rest : List Token) (t u : Tree) → ts ≡ tokens_of t ++ (k ∷ us) → us ≡ tokens_of u ++ (token.Mark mark.RoundClose ∷ rest)
      → token.Mark mark.RoundOpen ∷ ts ≡ (token.Mark mark.RoundOpen ∷ tokens_of t ++ (k ∷ tokens_of u ++ (token.Mark mark.RoundClose ∷ []))) ++ rest
  two_parts k ts us rest t u first second =
      let z = token.Mark mark.RoundClose in
      let inside : us ≡ (tokens_of u ++ (z ∷ [])) ++ rest = second ∙ sym (append_assoc (tokens_of u) (z ∷ []) rest) in
      ap (λ (vs : List Token). token.Mark mark.RoundOpen ∷ vs)
      (first ∙ ap (λ (vs : List Token). tokens_of t ++ (k ∷ vs)) inside ∙ sym (append_assoc (tokens_of t) (k ∷ tokens_of u ++ (z ∷ [])) rest))

  quotient-read : (ts us : List Token) (x y : Found) → inner 1 ts ≡ Some x → x.rest ≡ token.Mark mark.Slash ∷ us
      → (inner 1 us >>= λ z. closed mark.RoundClose z >>= pair 1 (of_terms (grammar.term tree.divided)) x) ≡ Some y → IsPart (suc d) 7 (token.Mark mark.RoundOpen ∷ ts) y
  quotient-read ts us x y r e q =
      let i = (reads 1 ts x (omega arith) r).part in
      let p = bind_some (inner 1 us) (λ z. closed mark.RoundClose z >>= pair 1 (of_terms (grammar.term tree.divided)) x) y q in
      let c = bind_some (closed mark.RoundClose p.0) (pair 1 (of_terms (grammar.term tree.divided)) x) y p.2 in
      let j = closed-read mark.RoundClose us p.0 c.0 p.1 c.1 in
      let w = bind_some (of_terms (grammar.term tree.divided) x.value c.0.value) (λ made. Some (record { value = made; size = grown 1 1 (larger x.size c.0.size); rest = c.0.rest })) y c.2 in
      subst (λ (f : Found). IsPart (suc d) 7 (token.Mark mark.RoundOpen ∷ ts) f) (some_is _ y w.2) (record {
        tree = quotient i.tree j.tree;
        grouped = (i.grouped, j.grouped);
        high = omega (arith, i.high, j.high);
        least = omega arith;
        parts = two_parts (token.Mark mark.Slash) ts us c.0.rest i.tree j.tree (i.parts ∙ ap (λ (vs : List Token). tokens_of i.tree ++ vs) e) j.parts;
        value_is = ap (λ (o : Option Value). o >>= λ v. value_of j.tree >>= of_terms (grammar.term tree.divided) v) i.value_is
            ∙ ap (λ (o : Option Value). o >>= of_terms (grammar.term tree.divided) x.value) j.value_is ∙ w.1;
        size_is = ap (λ (s : Size). grown 1 1 (larger s c.0.size)) i.size_is ∙ ap (λ (s : Size). grown 1 1 (larger (size_of i.tree) s)) j.size_is;
      })

  remainder-read : (ts us : List Token) (x y : Found) → inner 1 ts ≡ Some x → x.rest ≡ token.Mark mark.Percent ∷ us
      → (inner 1 us >>= λ z. closed mark.RoundClose z >>= pair 1 (of_terms (grammar.term tree.remainder)) x) ≡ Some y → IsPart (suc d) 7 (token.Mark mark.RoundOpen ∷ ts) y
  remainder-read ts us x y r e q =
      let i = (reads 1 ts x (omega arith) r).part in
      let p = bind_some (inner 1 us) (λ z. closed mark.RoundClose z >>= pair 1 (of_terms (grammar.term tree.remainder)) x) y q in
      let c = bind_some (closed mark.RoundClose p.0) (pair 1 (of_terms (grammar.term tree.remainder)) x) y p.2 in
      let j = closed-read mark.RoundClose us p.0 c.0 p.1 c.1 in
      let w = bind_some (of_terms (grammar.term tree.remainder) x.value c.0.value) (λ made. Some (record { value = made; size = grown 1 1 (larger x.size c.0.size); rest = c.0.rest })) y c.2 in
      subst (λ (f : Found). IsPart (suc d) 7 (token.Mark mark.RoundOpen ∷ ts) f) (some_is _ y w.2) (record {
        tree = remainder i.tree j.tree;
        grouped = (i.grouped, j.grouped);
        high = omega (arith, i.high, j.high);
        least = omega arith;
        parts = two_parts (token.Mark mark.Percent) ts us c.0.rest i.tree j.tree (i.parts ∙ ap (λ (vs : List Token). tokens_of i.tree ++ vs) e) j.parts;
        value_is = ap (λ (o : Option Value). o >>= λ v. value_of j.tree >>= of_terms (grammar.term tree.remainder) v) i.value_is
            ∙ ap (λ (o : Option Value). o >>= of_terms (grammar.term tree.remainder) x.value) j.value_is ∙ w.1;
        size_is = ap (λ (s : Size). grown 1 1 (larger s c.0.size)) i.size_is ∙ ap (λ (s : Size). grown 1 1 (larger (size_of i.tree) s)) j.size_is;
      })

  bracket-read : (ts : List Token) (x y : Found) → inner 1 ts ≡ Some x → (o p : Option (List Token)) → after mark.Slash x.rest ≡ o → after mark.Percent x.rest ≡ p
      → bracket_by inner inner_row x o p ≡ Some y → IsPart (suc d) 7 (token.Mark mark.RoundOpen ∷ ts) y
  bracket-read ts x y r (Some us) p e f q = quotient-read ts us x y r (after-is mark.Slash x.rest us e) q
  bracket-read ts x y r None (Some us) e f q = remainder-read ts us x y r (after-is mark.Percent x.rest us f) q
  bracket-read ts x y r None None e f q =
      let c = bind_some (closed mark.RoundClose x) (around 1 0 (λ v. Some v)) y q in
      around_brackets-read ts x c.0 y r c.1 c.2

  open-read : (k : Mark) (ts : List Token) (y : Found) → open_by inner inner_row k ts ≡ Some y → IsPart (suc d) 7 (token.Mark k ∷ ts) y
  open-read mark.RoundOpen ts y q =
      let a = bind_some (inner 1 ts) (bracket inner inner_row) y q in
      bracket-read ts a.0 y a.1 (after mark.Slash a.0.rest) (after mark.Percent a.0.rest) refl refl a.2
  open-read mark.RoundClose ts y q = absurd cc
  open-read mark.SquareOpen ts y q = absurd cc
  open-read mark.SquareClose ts y q = absurd cc
  open-read mark.Comma ts y q = absurd cc
  open-read mark.Slash ts y q = absurd cc
  open-read mark.Percent ts y q = absurd cc

  -- ---- prefixes

  negation-read : (ts : List Token) (x : Found) → (inner 7 ts >>= around 0 1 grammar.negated) ≡ Some x → IsPart (suc d) 7 (token.Operator op.Minus ∷ ts) x
  negation-read ts x q =
      let a = bind_some (inner 7 ts) (around 0 1 grammar.negated) x q in
      let i = (reads 7 ts a.0 (omega arith) a.1).part in
      let w = bind_some (grammar.negated a.0.value) (λ made. Some (record { value = made; size = grown 0 1 a.0.size; rest = a.0.rest })) x a.2 in
      subst (λ (f : Found). IsPart (suc d) 7 (token.Operator op.Minus ∷ ts) f) (some_is _ x w.2) (record {
        tree = negation i.tree;
        grouped = (i.least, i.grouped);
        high = omega (arith, i.high);
        least = omega arith;
        parts = ap (λ (us : List Token). token.Operator op.Minus ∷ us) i.parts;
        value_is = ap (λ (o : Option Value). o >>= grammar.negated) i.value_is ∙ w.1;
        size_is = ap (grown 0 1) i.size_is;
      })

  denial-read : (m : ℕ) (ts : List Token) (x : Found) → m ≤ 3 → (inner 3 ts >>= around 0 1 grammar.denied) ≡ Some x → IsOperand (suc d) m (token.Not ∷ ts) x
  denial-read m ts x le q =
      let a = bind_some (inner 3 ts) (around 0 1 grammar.denied) x q in
      let r = reads 3 ts a.0 (omega arith) a.1 in
      let i = r.part in
      let w = bind_some (grammar.denied a.0.value) (λ made. Some (record { value = made; size = grown 0 1 a.0.size; rest = a.0.rest })) x a.2 in
      subst (λ (f : Found). IsOperand (suc d) m (token.Not ∷ ts) f) (some_is _ x w.2) (
        record {
          tree = denial i.tree;
          grouped = (i.least, i.grouped);
          high = omega (arith, i.high);
          least = le;
          parts = ap (λ (us : List Token). token.Not ∷ us) i.parts;
          value_is = ap (λ (o : Option Value). o >>= grammar.denied) i.value_is ∙ w.1;
          size_is = ap (grown 0 1) i.size_is;
        },
        stop_before 3 (next_operator a.0.rest) r.stops,
      )

  not-read : (m : ℕ) (ts : List Token) (x : Found) → not_at inner inner_row m ts ≡ Some x → IsOperand (suc d) m (token.Not ∷ ts) x
  not-read m ts x q =
      elim (chosen (ltb 3 m) None (inner 3 ts >>= around 0 1 grammar.denied) (Some x) q) [
        | inl h ↦ absurd (let f = h.1 in cc)
        | inr h ↦ denial-read m ts x (ltb-false _ _ h.0) h.1
      ]

  truth-read : (ts : List Token) (x : Found) → truth_at inner inner_row ts ≡ Some x → IsPart (suc d) 7 (token.Truth ∷ ts) x
  truth-read ts x q =
      let b = bind_some (after mark.RoundOpen ts) (λ inside. inner 1 inside >>= λ f. closed mark.RoundClose f >>= around 1 1 grammar.truth_of) x q in
      let p = bind_some (inner 1 b.0) (λ f. closed mark.RoundClose f >>= around 1 1 grammar.truth_of) x b.2 in
      let c = bind_some (closed mark.RoundClose p.0) (around 1 1 grammar.truth_of) x p.2 in
      let i = closed-read mark.RoundClose b.0 p.0 c.0 p.1 c.1 in
      let w = bind_some (grammar.truth_of c.0.value) (λ made. Some (record { value = made; size = grown 1 1 c.0.size; rest = c.0.rest })) x c.2 in
      subst (λ (f : Found). IsPart (suc d) 7 (token.Truth ∷ ts) f) (some_is _ x w.2) (record {
        tree = truth i.tree;
        grouped = i.grouped;
        high = omega (arith, i.high);
        least = omega arith;
        parts = ap (λ (us : List Token). token.Truth ∷ us)
            (after-is mark.RoundOpen ts b.0 b.1 ∙ ap (λ (us : List Token). token.Mark mark.RoundOpen ∷ us) (i.parts ∙ sym (append_assoc (tokens_of i.tree) (token.Mark mark.RoundClose ∷ []) c.0.rest)));
        value_is = ap (λ (o : Option Value). o >>= grammar.truth_of) i.value_is ∙ w.1;
        size_is = ap (grown 1 1) i.size_is;
      })

  sign-read : (ts : List Token) (x : Found) → negative_leaf ts ≡ Some x → IsPart (suc d) 7 (token.Operator op.TightMinus ∷ ts) x
  sign-read [] x q = absurd cc
  sign-read (t ∷ ts) x q =
      let a = bind_some (numbered t) (λ z. number_leaf ts (neg_ℤ z)) x q in
      let n = numbered-is t a.0 a.1 in
      leaf_part d (negative n.0) (token.Operator op.TightMinus ∷ t ∷ ts) ts (value.Term (tree.number (neg_ℤ a.0))) x tt (omega arith) (omega arith)
      (ap (λ (k : Token). token.Operator op.TightMinus ∷ k ∷ ts) n.1) (ap (λ (z : ℤ). Some (value.Term (tree.number (neg_ℤ z)))) (sym n.2)) refl a.2

  operator-read : (o : Operator) (ts : List Token) (x : Found) → operator_by inner inner_row o ts ≡ Some x → IsPart (suc d) 7 (token.Operator o ∷ ts) x
  operator-read op.Minus ts x q = negation-read ts x q
  operator-read op.TightMinus ts x q = sign-read ts x q
  operator-read op.Or ts x q = absurd cc
  operator-read op.And ts x q = absurd cc
  operator-read op.Less ts x q = absurd cc
  operator-read op.AtMost ts x q = absurd cc
  operator-read op.Greater ts x q = absurd cc
  operator-read op.AtLeast ts x q = absurd cc
  operator-read op.Equal ts x q = absurd cc
  operator-read op.Unequal ts x q = absurd cc
  operator-read op.Plus ts x q = absurd cc
  operator-read op.Times ts x q = absurd cc

  -- ---- arrays

  element-read : (ts : List Token) (x : Found) → element_at inner inner_row ts ≡ Some x → IsPart (suc d) 7 ts x
  element-read ts x q =
      let a = bind_some (inner_row ts) (λ a. after mark.SquareOpen a.rest >>= index_at inner inner_row a) x q in
      let i = reads_row ts a.0 a.1 in
      let b = bind_some (after mark.SquareOpen a.0.rest) (index_at inner inner_row a.0) x a.2 in
      let p = index-read a.0 i.tree b.0 x i.grouped (omega (arith, i.high)) i.value_is i.size_is b.2 in
      subst (λ (us : List Token). IsPart (suc d) 7 us x) (sym (i.parts ∙ ap (λ (us : List Token). row_tokens i.tree ++ us) (after-is mark.SquareOpen a.0.rest b.0 b.1))) p

  stored_parts : (a : Row) (i t : Tree) (ts us vs ws rest : List Token) → ts ≡ token.Mark mark.RoundOpen ∷ us → us ≡ row_tokens a ++ (token.Mark mark.Comma ∷ vs) → vs ≡ tokens_of i ++ (token.Mark mark.Comma ∷ ws)
      → ws ≡ tokens_of t ++ (token.Mark mark.RoundClose ∷ rest) → token.Store ∷ ts ≡ row_tokens (stored a i t) ++ rest
  stored_parts a i t ts us vs ws rest begun first second third =
      let c = token.Mark mark.Comma in
      let z = token.Mark mark.RoundClose in
      let last : ws ≡ (tokens_of t ++ (z ∷ [])) ++ rest = third ∙ sym (append_assoc (tokens_of t) (z ∷ []) rest) in
      let middle : vs ≡ (tokens_of i ++ (c ∷ tokens_of t ++ (z ∷ []))) ++ rest =
      second ∙ ap (λ (x : List Token). tokens_of i ++ (c ∷ x)) last ∙ sym (append_assoc (tokens_of i) (c ∷ tokens_of t ++ (z ∷ [])) rest) in
      let whole : us ≡ (row_tokens a ++ (c ∷ tokens_of i ++ (c ∷ tokens_of t ++ (z ∷ [])))) ++ rest =
      first ∙ ap (λ (x : List Token). row_tokens a ++ (c ∷ x)) middle ∙ sym (append_assoc (row_tokens a) (c ∷ tokens_of i ++ (c ∷ tokens_of t ++ (z ∷ []))) rest) in
      ap (λ (x : List Token). token.Store ∷ x) begun ∙ ap (λ (x : List Token). token.Store ∷ token.Mark mark.RoundOpen ∷ x) whole

  store-read : (ts : List Token) (x : FoundRow) → store_at inner inner_row ts ≡ Some x → IsRow (suc d) (token.Store ∷ ts) x
  unfolding store_at
  store-read ts x q =
      let b = bind_some (after mark.RoundOpen ts) (λ inside. inner_row inside >>= λ a. after mark.Comma a.rest >>= λ second. inner 1 second >>= λ i. after mark.Comma i.rest >>= λ third. inner 1 third >>= λ t. closed mark.RoundClose t >>= store a i) x q in
      let a = bind_some (inner_row b.0) (λ a. after mark.Comma a.rest >>= λ second. inner 1 second >>= λ i. after mark.Comma i.rest >>= λ third. inner 1 third >>= λ t. closed mark.RoundClose t >>= store a i) x b.2 in
      let second = bind_some (after mark.Comma a.0.rest) (λ second. inner 1 second >>= λ i. after mark.Comma i.rest >>= λ third. inner 1 third >>= λ t. closed mark.RoundClose t >>= store a.0 i) x a.2 in
      let i = bind_some (inner 1 second.0) (λ i. after mark.Comma i.rest >>= λ third. inner 1 third >>= λ t. closed mark.RoundClose t >>= store a.0 i) x second.2 in
      let third = bind_some (after mark.Comma i.0.rest) (λ third. inner 1 third >>= λ t. closed mark.RoundClose t >>= store a.0 i.0) x i.2 in
      let t = bind_some (inner 1 third.0) (λ t. closed mark.RoundClose t >>= store a.0 i.0) x third.2 in
      let c = bind_some (closed mark.RoundClose t.0) (store a.0 i.0) x t.2 in
      let w = bind_some (grammar.stored_of a.0.row i.0.value c.0.value) (λ made. Some (record { row = made; size = grown 1 1 (larger a.0.size (larger i.0.size c.0.size)); rest = c.0.rest })) x c.2 in
      let r = reads_row b.0 a.0 a.1 in
      let j = (reads 1 second.0 i.0 (omega arith) i.1).part in
      let k = closed-read mark.RoundClose third.0 t.0 c.0 t.1 c.1 in
      subst (λ (y : FoundRow). IsRow (suc d) (token.Store ∷ ts) y) (some_is _ x w.2) (record {
        tree = stored r.tree j.tree k.tree;
        grouped = (r.grouped, j.grouped, k.grouped);
        high = omega (arith, r.high, j.high, k.high);
        parts = stored_parts r.tree j.tree k.tree ts b.0 second.0 third.0 c.0.rest (after-is mark.RoundOpen ts b.0 b.1)
            (r.parts ∙ ap (λ (y : List Token). row_tokens r.tree ++ y) (after-is mark.Comma a.0.rest second.0 second.1))
            (j.parts ∙ ap (λ (y : List Token). tokens_of j.tree ++ y) (after-is mark.Comma i.0.rest third.0 third.1)) k.parts;
        value_is = ap (λ (o : Option ArrayTree). o >>= λ y. value_of j.tree >>= λ u. value_of k.tree >>= grammar.stored_of y u) r.value_is
            ∙ ap (λ (o : Option Value). o >>= λ u. value_of k.tree >>= grammar.stored_of a.0.row u) j.value_is
            ∙ ap (λ (o : Option Value). o >>= grammar.stored_of a.0.row i.0.value) k.value_is ∙ w.1;
        size_is = ap (λ (s : Size). grown 1 1 (larger s (larger i.0.size c.0.size))) r.size_is
            ∙ ap (λ (s : Size). grown 1 1 (larger (row_size r.tree) (larger s c.0.size))) j.size_is
            ∙ ap (λ (s : Size). grown 1 1 (larger (row_size r.tree) (larger (size_of j.tree) s))) k.size_is;
      })

  base-read : (x : Bytes) (ts : List Token) (y : FoundRow) → Some (array_leaf (name_after x ts)) ≡ Some y → IsRow (suc d) (token.Base x ∷ ts) y
  base-read x ts y q =
      let n = name_after-is x ts in
      subst (λ (z : FoundRow). IsRow (suc d) (token.Base x ∷ ts) z) (some_is _ y q)
      (record { tree = array n.0; grouped = tt; high = omega arith; parts = n.2; value_is = ap (λ (s : Sym). Some (tree.array s)) n.1; size_is = refl })

  array_by-read : (t : Token) (ts : List Token) (x : FoundRow) → array_by inner inner_row t ts ≡ Some x → IsRow (suc d) (t ∷ ts) x
  array_by-read (token.Base b) ts x q = base-read b ts x q
  array_by-read token.Store ts x q = store-read ts x q
  array_by-read (token.Count n) ts x q = absurd cc
  array_by-read (token.Number z) ts x q = absurd cc
  array_by-read (token.Operator o) ts x q = absurd cc
  array_by-read (token.Mark m) ts x q = absurd cc
  array_by-read token.Not ts x q = absurd cc
  array_by-read token.Null ts x q = absurd cc
  array_by-read token.True ts x q = absurd cc
  array_by-read token.False ts x q = absurd cc
  array_by-read token.Truth ts x q = absurd cc

  array-read : (ts : List Token) (x : FoundRow) → array_at inner inner_row ts ≡ Some x → IsRow (suc d) ts x
  unfolding array_at
  array-read [] x q = absurd cc
  array-read (t ∷ ts) x q = array_by-read t ts x q

  -- ---- operands

  number-read : (z : ℤ) (ts : List Token) (x : Found) → (natural z >>= number_leaf ts) ≡ Some x → IsPart (suc d) 7 (token.Number z ∷ ts) x
  number-read z ts x q =
      let a = bind_some (natural z) (number_leaf ts) x q in
      let n = natural-is z a.0 a.1 in
      leaf_part d (number n.0) (token.Number z ∷ ts) ts (value.Term (tree.number a.0)) x tt (omega arith) (omega arith)
      (ap (λ (y : ℤ). token.Number y ∷ ts) n.1) (ap (λ (y : ℤ). Some (value.Term (tree.number y))) (sym n.2)) refl a.2

  operand_by-read : (m : ℕ) (t : Token) (ts : List Token) (x : Found) → m ≤ 7 → operand_by inner inner_row m t ts ≡ Some x → IsOperand (suc d) m (t ∷ ts) x
  operand_by-read m (token.Number z) ts x le q = weaker (suc d) m _ x le (number-read z ts x q)
  operand_by-read m (token.Base b) ts x le q =
      let n = name_after-is b ts in
      weaker (suc d) m _ x le (named-read b ts x n.0 n.1 n.2 (after mark.SquareOpen (name_after b ts).1) refl q)
  operand_by-read m token.Null ts x le q = weaker (suc d) m _ x le (leaf_part d null (token.Null ∷ ts) ts (value.Term (tree.number (pos 0))) x tt (omega arith) (omega arith) refl refl refl q)
  operand_by-read m token.True ts x le q = weaker (suc d) m _ x le (leaf_part d always (token.True ∷ ts) ts (value.Form tree.always) x tt (omega arith) (omega arith) refl refl refl q)
  operand_by-read m token.False ts x le q = weaker (suc d) m _ x le (leaf_part d never (token.False ∷ ts) ts (value.Form tree.never) x tt (omega arith) (omega arith) refl refl refl q)
  operand_by-read m token.Truth ts x le q = weaker (suc d) m _ x le (truth-read ts x q)
  operand_by-read m token.Store ts x le q = weaker (suc d) m _ x le (element-read (token.Store ∷ ts) x q)
  operand_by-read m token.Not ts x le q = not-read m ts x q
  operand_by-read m (token.Operator o) ts x le q = weaker (suc d) m _ x le (operator-read o ts x q)
  operand_by-read m (token.Mark k) ts x le q = weaker (suc d) m _ x le (open-read k ts x q)
  operand_by-read m (token.Count n) ts x le q = absurd cc

  operand-read : (m : ℕ) (ts : List Token) (x : Found) → m ≤ 7 → operand inner inner_row m ts ≡ Some x → IsOperand (suc d) m ts x
  unfolding operand
  operand-read m [] x le q = absurd cc
  operand-read m (t ∷ ts) x le q = operand_by-read m t ts x le q

  -- ---- chains

  -- the left side with an operator and a right side
  joined-part : (m : ℕ) (o : Operator) (ts us : List Token) (left right both : Found) (p : IsPart (suc d) m ts left) → level o ≤ binds p.tree → m ≤ level o → next_operator left.rest ≡ Some (o, us)
      → IsPart d (level o + 1) us right → left.size.height < suc d → join o left right ≡ Some both
      → (q : IsPart (suc d) m ts both) × (binds q.tree ≡ level o) × (both.rest ≡ right.rest) × (left.size.height < both.size.height)
  joined-part m o ts us left right both p tight least saw r fits j =
      let f = next-is left.rest us o saw in
      let t = token.Operator o in
      let w = bind_some (apply o left.value right.value) (λ made. Some (record { value = made; size = grown 0 1 (larger left.size right.size); rest = right.rest })) both j in
      let split : ts ≡ (tokens_of p.tree ++ t ∷ tokens_of r.tree) ++ right.rest =
      p.parts ∙ ap (λ (x : List Token). tokens_of p.tree ++ x) (f ∙ ap (λ (x : List Token). t ∷ x) r.parts) ∙ sym (append_assoc (tokens_of p.tree) (t ∷ tokens_of r.tree) right.rest) in
      let low : (size_of p.tree).height < suc d = subst (λ (s : Size). s.height < suc d) p.size_is fits in
      subst (λ (z : Found). (q : IsPart (suc d) m ts z) × (binds q.tree ≡ level o) × (z.rest ≡ right.rest) × (left.size.height < z.size.height)) (some_is _ both w.2) (
        record {
          tree = joined p.tree o r.tree;
          grouped = (tight, omega (arith, r.least), p.grouped, r.grouped);
          high = omega (arith, low, r.high);
          least = least;
          parts = split;
          value_is = ap (λ (x : Option Value). x >>= λ y. value_of r.tree >>= apply o y) p.value_is ∙ ap (λ (x : Option Value). x >>= apply o left.value) r.value_is ∙ w.1;
          size_is = ap (λ (s : Size). grown 0 1 (larger s right.size)) p.size_is ∙ ap (λ (s : Size). grown 0 1 (larger (size_of p.tree) s)) r.size_is;
        },
        refl,
        refl,
        omega arith,
      )

  stop_at : (l : ℕ) (o : Option (Operator × List Token)) → IfSome o (λ y. level y.0 < l + 1) → IfSome o (λ y. level y.0 ≤ l)
  stop_at l None h = tt
  stop_at l (Some x) h = omega arith

  -- what holds of reading on with k turns
  abbrev Goes : ℕ → ℕ → List Token → Found → Type 0
  Goes m k ts x = (left : Found) (p : IsPart (suc d) m ts left) → IfSome (next_operator left.rest) (λ y. level y.0 ≤ binds p.tree) → suc d < left.size.height + k → more inner inner_row k (suc d) m left ≡ Some x → IsRead (suc d) m ts x

  turn-read : (m k : ℕ) (ts : List Token) (x left : Found) (p : IsPart (suc d) m ts left) (next : Option (Operator × List Token)) → next_operator left.rest ≡ next → IfSome next (λ y. level y.0 ≤ binds p.tree) → suc d < left.size.height + suc k
      → more_by inner inner_row (more inner inner_row k (suc d) m) (suc d) m left next ≡ Some x → Goes m k ts x → IsRead (suc d) m ts x
  turn-read m k ts x left p None n s enough q go = subst (λ (y : Found). IsRead (suc d) m ts y) (some_is left x q) (record { part = p; stops = rw n tt })
  turn-read m k ts x left p (Some (o, us)) n s enough q go =
      elim (chosen (ltb (level o) m) (Some left) (cond (ltb left.size.height (suc d)) (inner (level o + 1) us >>= λ right. join o left right >>= more inner inner_row k (suc d) m) None) (Some x) q) [
        | inl h ↦ subst (λ (y : Found). IsRead (suc d) m ts y) (some_is left x h.1) (record { part = p; stops = rw n (ltb-true _ _ h.0) })
        | inr h ↦ elim (chosen (ltb left.size.height (suc d)) (inner (level o + 1) us >>= λ right. join o left right >>= more inner inner_row k (suc d) m) None (Some x) h.1) [
          | inl i ↦
              let a = bind_some (inner (level o + 1) us) (λ right. join o left right >>= more inner inner_row k (suc d) m) x i.1 in
              let b = bind_some (join o left a.0) (more inner inner_row k (suc d) m) x a.2 in
              let r = reads (level o + 1) us a.0 (omega (arith, level_small o)) a.1 in
              let whole = joined-part m o ts us left a.0 b.0 p s (ltb-false _ _ h.0) n r.part (ltb-true _ _ i.0) b.1 in
              go b.0 whole.0 (rw (whole.1, whole.2) (stop_at (level o) (next_operator a.0.rest) r.stops)) (omega (arith, whole.3)) b.2
          | inr i ↦ absurd (let f = i.1 in cc)
        ]
      ]

  more-read : (m k : ℕ) (ts : List Token) (x : Found) → Goes m k ts x
  unfolding more
  more-read m zero ts x left p s enough q =
      let high : left.size.height ≤ suc d = subst (λ (z : Size). z.height ≤ suc d) (sym p.size_is) p.high in
      let never : ⊥ = omega arith in absurd never
  more-read m (suc k) ts x left p s enough q = turn-read m k ts x left p (next_operator left.rest) refl s enough q (more-read m k ts x)

-- what is read is in the grammar
mutual
  unfolding readers

  pub reads_trees : (d : ℕ) → Reads (expr d) d
  reads_trees zero m ts x small q = absurd cc
  reads_trees (suc d) m ts x small q =
      let a = bind_some (operand (expr d) (row d) m ts) (more (expr d) (row d) (suc d) (suc d) m) x q in
      let p = operand-read (expr d) (row d) d (reads_trees d) (reads_rows d) m ts a.0 small a.1 in
      let low : 1 ≤ a.0.size.height = subst (λ (z : Size). 1 ≤ z.height) (sym p.0.size_is) (height_positive p.0.tree) in
      more-read (expr d) (row d) d (reads_trees d) (reads_rows d) m (suc d) ts x a.0 p.0 p.1 (omega arith) a.2

  pub reads_rows : (d : ℕ) → ReadsRow (row d) d
  reads_rows zero ts x q = absurd cc
  reads_rows (suc d) ts x q = array-read (expr d) (row d) d (reads_trees d) (reads_rows d) ts x q
