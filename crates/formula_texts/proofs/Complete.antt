-- What the grammar has is read.
use Rattle.std.proofs.Common.{◌≡◌, ℕ, zero, suc, ◌+◌, ◌<◌, ◌≤◌, List, [], ◌∷◌, ◌++◌, Option, Some, None, refl, ap, ◌∙◌, append_assoc, arith}
use Rattle.std.specs.Prelude.{IfSome}
use Rattle.std.proofs.lemmas.Bool.{le-ltb, lt-ltb}
use Rattle.terms.specs.Trees as tree
use Rattle.terms.specs.Trees.{ArrayTree}
use Rattle.formula_texts.specs.declared.token.Token.{Token}
use Rattle.formula_texts.specs.declared.token.Token.TheVariants as token
use Rattle.formula_texts.specs.declared.token.Operator.{Operator}
use Rattle.formula_texts.specs.declared.token.Mark.{Mark}
use Rattle.formula_texts.specs.declared.token.Mark.TheVariants as mark
use Rattle.formula_texts.specs.declared.value.Value.{Value}
use Rattle.formula_texts.specs.declared.value.Value.TheVariants as value
use Rattle.formula_texts.specs.Grammar as grammar
use Rattle.formula_texts.specs.Grammar.{NameText, plain, counted, Tree, number, negative, null, always, never, name, element, truth, brackets, quotient, remainder, negation, denial, joined, Row, array, stored, name_tokens, tokens_of, row_tokens, level, binds, IsGrouped, IsGroupedRow, size_of, row_size, ◌>>=◌, sym_of, apply, value_of, row_of}
use Rattle.formula_texts.specs.Code.Reading.{Found, FoundRow, Parse, ParseRow, after, count_after, next_operator, join, index_at, store_at, operand, array_at, more_by, more, readers}
use Rattle.formula_texts.proofs.OperatorLaws.{level_small, level_positive, level_apart, bind_some}

-- what may stand behind a form or a term whose outermost operator binds so tightly
pub record Follows (l : ℕ) (rest : List Token) : Type 0 where
  pub no_index : after mark.SquareOpen rest ≡ None
  pub no_count : count_after rest ≡ (0, rest)
  pub looser : IfSome (next_operator rest) (λ x. level x.0 ≤ l)

abbrev pub found : Tree → Value → List Token → Found
found t v rest = record { value = v; size = size_of t; rest = rest }

abbrev pub found_row : Row → ArrayTree → List Token → FoundRow
found_row a v rest = record { row = v; size = row_size a; rest = rest }

abbrev pub expr : ℕ → ℕ → Parse
expr d = (readers d).value

abbrev pub row : ℕ → ParseRow
row d = (readers d).row

abbrev pub below : ℕ → ℕ → Parse
below zero = expr zero
below (suc d) = expr d

abbrev pub below_row : ℕ → ParseRow
below_row zero = row zero
below_row (suc d) = row d

if_some_mono : {A : Type 0} (P Q : A → Type 0) (o : Option A) → ((a : A) → P a → Q a) → IfSome o P → IfSome o Q
if_some_mono P Q None f h = tt
if_some_mono P Q (Some a) f h = f a h

follows_mono : (l n : ℕ) (rest : List Token) → l ≤ n → Follows l rest → Follows n rest
follows_mono l n rest le f = record {
  no_index = f.no_index;
  no_count = f.no_count;
  looser = if_some_mono (λ (x : Operator × List Token). level x.0 ≤ l) (λ (x : Operator × List Token). level x.0 ≤ n) (next_operator rest) (λ x h. omega arith) f.looser;
}

all_small : (o : Option (Operator × List Token)) → IfSome o (λ x. level x.0 < 7)
all_small None = tt
all_small (Some x) = level_small x.0

pub height_positive : (t : Tree) → 1 ≤ (size_of t).height
height_positive (number n) = omega arith
height_positive (negative n) = omega arith
height_positive null = omega arith
height_positive always = omega arith
height_positive never = omega arith
height_positive (name x) = omega arith
height_positive (element a i) = omega arith
height_positive (truth f) = omega arith
height_positive (brackets t) = omega arith
height_positive (quotient t u) = omega arith
height_positive (remainder t u) = omega arith
height_positive (negation t) = omega arith
height_positive (denial f) = omega arith
height_positive (joined a o b) = omega arith

pub binds_something : (t : Tree) → 1 ≤ binds t
binds_something (number n) = omega arith
binds_something (negative n) = omega arith
binds_something null = omega arith
binds_something always = omega arith
binds_something never = omega arith
binds_something (name x) = omega arith
binds_something (element a i) = omega arith
binds_something (truth f) = omega arith
binds_something (brackets t) = omega arith
binds_something (quotient t u) = omega arith
binds_something (remainder t u) = omega arith
binds_something (negation t) = omega arith
binds_something (denial f) = omega arith
binds_something (joined a o b) = level_positive o

module _ (inner : ℕ → Parse) (inner_row : ParseRow) where
  closes_by : (go : Found → Option Found) (d m : ℕ) (left : Found) (next : Option (Operator × List Token)) → IfSome next (λ x. level x.0 < m) → more_by inner inner_row go d m left next ≡ Some left
  closes_by go d m left None h = refl
  closes_by go d m left (Some (o, ts)) h = rw (lt-ltb _ _ h) refl

  -- where no operator goes on
  pub closes : (k d m : ℕ) (left : Found) → IfSome (next_operator left.rest) (λ x. level x.0 < m) → more inner inner_row k d m left ≡ Some left
  unfolding more
  closes zero d m left h = refl
  closes (suc k) d m left h = closes_by (more inner inner_row k d m) d m left (next_operator left.rest) h

  -- ---- operands, from what inner reads

  operand_number : (m n : ℕ) (rest : List Token) (v : Value) → value_of (number n) ≡ Some v → operand inner inner_row m (tokens_of (number n) ++ rest) ≡ Some (found (number n) v rest)
  unfolding operand
  operand_number m n rest v e = ap (λ (o : Option Value). o >>= λ w. Some (found (number n) w rest)) e

  operand_negative : (m n : ℕ) (rest : List Token) (v : Value) → value_of (negative n) ≡ Some v → operand inner inner_row m (tokens_of (negative n) ++ rest) ≡ Some (found (negative n) v rest)
  unfolding operand
  operand_negative m n rest v e = ap (λ (o : Option Value). o >>= λ w. Some (found (negative n) w rest)) e

  operand_null : (m : ℕ) (rest : List Token) (v : Value) → value_of null ≡ Some v → operand inner inner_row m (tokens_of null ++ rest) ≡ Some (found null v rest)
  unfolding operand
  operand_null m rest v e = ap (λ (o : Option Value). o >>= λ w. Some (found null w rest)) e

  operand_always : (m : ℕ) (rest : List Token) (v : Value) → value_of always ≡ Some v → operand inner inner_row m (tokens_of always ++ rest) ≡ Some (found always v rest)
  unfolding operand
  operand_always m rest v e = ap (λ (o : Option Value). o >>= λ w. Some (found always w rest)) e

  operand_never : (m : ℕ) (rest : List Token) (v : Value) → value_of never ≡ Some v → operand inner inner_row m (tokens_of never ++ rest) ≡ Some (found never v rest)
  unfolding operand
  operand_never m rest v e = ap (λ (o : Option Value). o >>= λ w. Some (found never w rest)) e

  read_name : (m : ℕ) (x : NameText) (l : ℕ) (rest : List Token) → Follows l rest → operand inner inner_row m (name_tokens x ++ rest) ≡ Some (found (name x) (value.Term (tree.name (sym_of x))) rest)
  unfolding operand
  read_name m (plain x) l rest f = rw (f.no_count, f.no_index) refl
  read_name m (counted x n) l rest f = rw f.no_index refl

  index_is : (a : Row) (i : Tree) (v : ArrayTree) (w made : Value) (rest more : List Token) → inner 1 (tokens_of i ++ token.Mark mark.SquareClose ∷ rest) ≡ Some (found i w (token.Mark mark.SquareClose ∷ rest))
      → grammar.element_of v w ≡ Some made → index_at inner inner_row (found_row a v more) ((tokens_of i ++ token.Mark mark.SquareClose ∷ []) ++ rest) ≡ Some (found (element a i) made rest)
  index_is a i v w made rest more e is =
      let z = token.Mark mark.SquareClose in
      let inside : inner 1 ((tokens_of i ++ z ∷ []) ++ rest) ≡ Some (found i w (z ∷ rest)) = ap (inner 1) (append_assoc (tokens_of i) (z ∷ []) rest) ∙ e in
      rw (inside, is) refl

  read_element : (m : ℕ) (x : NameText) (i : Tree) (w made : Value) (rest : List Token) → inner 1 (tokens_of i ++ token.Mark mark.SquareClose ∷ rest) ≡ Some (found i w (token.Mark mark.SquareClose ∷ rest))
      → grammar.element_of (tree.array (sym_of x)) w ≡ Some made → operand inner inner_row m (tokens_of (element (array x) i) ++ rest) ≡ Some (found (element (array x) i) made rest)
  unfolding operand
  read_element m (plain x) i w made rest e is = index_is (array (plain x)) i (tree.array (sym_of (plain x))) w made rest [] e is
  read_element m (counted x n) i w made rest e is = index_is (array (counted x n)) i (tree.array (sym_of (counted x n))) w made rest [] e is

  read_stored_element : (m : ℕ) (a : Row) (j t i : Tree) (v : ArrayTree) (w made : Value) (rest : List Token)
      → inner_row (row_tokens (stored a j t) ++ (token.Mark mark.SquareOpen ∷ ((tokens_of i ++ token.Mark mark.SquareClose ∷ []) ++ rest))) ≡ Some (found_row (stored a j t) v (token.Mark mark.SquareOpen ∷ ((tokens_of i ++ token.Mark mark.SquareClose ∷ []) ++ rest)))
      → inner 1 (tokens_of i ++ token.Mark mark.SquareClose ∷ rest) ≡ Some (found i w (token.Mark mark.SquareClose ∷ rest))
      → grammar.element_of v w ≡ Some made → operand inner inner_row m (tokens_of (element (stored a j t) i) ++ rest) ≡ Some (found (element (stored a j t) i) made rest)
  unfolding operand
  read_stored_element m a j t i v w made rest r e is =
      let behind = token.Mark mark.SquareOpen ∷ (tokens_of i ++ token.Mark mark.SquareClose ∷ []) in
      let front : inner_row ((row_tokens (stored a j t) ++ behind) ++ rest) ≡ Some (found_row (stored a j t) v (behind ++ rest)) = ap inner_row (append_assoc (row_tokens (stored a j t)) behind rest) ∙ r in
      rw front (index_is (stored a j t) i v w made rest [] e is)

  read_truth : (m : ℕ) (f : Tree) (w made : Value) (rest : List Token) → inner 1 (tokens_of f ++ token.Mark mark.RoundClose ∷ rest) ≡ Some (found f w (token.Mark mark.RoundClose ∷ rest))
      → grammar.truth_of w ≡ Some made → operand inner inner_row m (tokens_of (truth f) ++ rest) ≡ Some (found (truth f) made rest)
  unfolding operand
  read_truth m f w made rest e is =
      let z = token.Mark mark.RoundClose in
      let inside : inner 1 ((tokens_of f ++ z ∷ []) ++ rest) ≡ Some (found f w (z ∷ rest)) = ap (inner 1) (append_assoc (tokens_of f) (z ∷ []) rest) ∙ e in
      rw (inside, is) refl

  read_brackets : (m : ℕ) (t : Tree) (w : Value) (rest : List Token) → inner 1 (tokens_of t ++ token.Mark mark.RoundClose ∷ rest) ≡ Some (found t w (token.Mark mark.RoundClose ∷ rest))
      → operand inner inner_row m (tokens_of (brackets t) ++ rest) ≡ Some (found (brackets t) w rest)
  unfolding operand
  read_brackets m t w rest e =
      let z = token.Mark mark.RoundClose in
      let inside : inner 1 ((tokens_of t ++ z ∷ []) ++ rest) ≡ Some (found t w (z ∷ rest)) = ap (inner 1) (append_assoc (tokens_of t) (z ∷ []) rest) ∙ e in
      rw inside refl

  -- two terms in brackets with a sign between
  in_two : (z : Token) (t u : Tree) (rest : List Token) → ((tokens_of t ++ (z ∷ tokens_of u ++ (token.Mark mark.RoundClose ∷ []))) ++ rest) ≡ (tokens_of t ++ (z ∷ ((tokens_of u ++ token.Mark mark.RoundClose ∷ []) ++ rest)))
  in_two z t u rest = append_assoc (tokens_of t) (z ∷ tokens_of u ++ (token.Mark mark.RoundClose ∷ [])) rest

  read_quotient : (m : ℕ) (t u : Tree) (x y made : Value) (rest : List Token)
      → inner 1 (tokens_of t ++ (token.Mark mark.Slash ∷ ((tokens_of u ++ token.Mark mark.RoundClose ∷ []) ++ rest))) ≡ Some (found t x (token.Mark mark.Slash ∷ ((tokens_of u ++ token.Mark mark.RoundClose ∷ []) ++ rest)))
      → inner 1 (tokens_of u ++ token.Mark mark.RoundClose ∷ rest) ≡ Some (found u y (token.Mark mark.RoundClose ∷ rest))
      → grammar.of_terms (grammar.term tree.divided) x y ≡ Some made → operand inner inner_row m (tokens_of (quotient t u) ++ rest) ≡ Some (found (quotient t u) made rest)
  unfolding operand
  read_quotient m t u x y made rest e r is =
      let z = token.Mark mark.RoundClose in
      let second : inner 1 ((tokens_of u ++ z ∷ []) ++ rest) ≡ Some (found u y (z ∷ rest)) = ap (inner 1) (append_assoc (tokens_of u) (z ∷ []) rest) ∙ r in
      rw (ap (inner 1) (in_two (token.Mark mark.Slash) t u rest) ∙ e) (rw (second, is) refl)

  read_remainder : (m : ℕ) (t u : Tree) (x y made : Value) (rest : List Token)
      → inner 1 (tokens_of t ++ (token.Mark mark.Percent ∷ ((tokens_of u ++ token.Mark mark.RoundClose ∷ []) ++ rest))) ≡ Some (found t x (token.Mark mark.Percent ∷ ((tokens_of u ++ token.Mark mark.RoundClose ∷ []) ++ rest)))
      → inner 1 (tokens_of u ++ token.Mark mark.RoundClose ∷ rest) ≡ Some (found u y (token.Mark mark.RoundClose ∷ rest))
      → grammar.of_terms (grammar.term tree.remainder) x y ≡ Some made → operand inner inner_row m (tokens_of (remainder t u) ++ rest) ≡ Some (found (remainder t u) made rest)
  unfolding operand
  read_remainder m t u x y made rest e r is =
      let z = token.Mark mark.RoundClose in
      let second : inner 1 ((tokens_of u ++ z ∷ []) ++ rest) ≡ Some (found u y (z ∷ rest)) = ap (inner 1) (append_assoc (tokens_of u) (z ∷ []) rest) ∙ r in
      rw (ap (inner 1) (in_two (token.Mark mark.Percent) t u rest) ∙ e) (rw (second, is) refl)

  read_negation : (m : ℕ) (t : Tree) (w made : Value) (rest : List Token) → inner 7 (tokens_of t ++ rest) ≡ Some (found t w rest)
      → grammar.negated w ≡ Some made → operand inner inner_row m (tokens_of (negation t) ++ rest) ≡ Some (found (negation t) made rest)
  unfolding operand
  read_negation m t w made rest e is = rw (e, is) refl

  read_denial : (m : ℕ) (t : Tree) (w made : Value) (rest : List Token) → m ≤ 3 → inner 3 (tokens_of t ++ rest) ≡ Some (found t w rest)
      → grammar.denied w ≡ Some made → operand inner inner_row m (tokens_of (denial t) ++ rest) ≡ Some (found (denial t) made rest)
  unfolding operand
  read_denial m t w made rest le e is = rw (le-ltb _ _ le, e, is) refl

  -- ---- arrays

  read_array : (x : NameText) (rest : List Token) → count_after rest ≡ (0, rest) → array_at inner inner_row (name_tokens x ++ rest) ≡ Some (found_row (array x) (tree.array (sym_of x)) rest)
  unfolding array_at
  read_array (plain x) rest f = rw f refl
  read_array (counted x n) rest f = refl

  read_stored : (a : Row) (i t : Tree) (v made : ArrayTree) (x y : Value) (rest : List Token) → let c = token.Mark mark.Comma in let z = token.Mark mark.RoundClose in
      inner_row (row_tokens a ++ (c ∷ (tokens_of i ++ (c ∷ (tokens_of t ++ z ∷ rest))))) ≡ Some (found_row a v (c ∷ (tokens_of i ++ (c ∷ (tokens_of t ++ z ∷ rest)))))
      → inner 1 (tokens_of i ++ (c ∷ (tokens_of t ++ z ∷ rest))) ≡ Some (found i x (c ∷ (tokens_of t ++ z ∷ rest)))
      → inner 1 (tokens_of t ++ z ∷ rest) ≡ Some (found t y (z ∷ rest))
      → grammar.stored_of v x y ≡ Some made → array_at inner inner_row (row_tokens (stored a i t) ++ rest) ≡ Some (found_row (stored a i t) made rest)
  unfolding array_at store_at
  read_stored a i t v made x y rest r e f is =
      let c = token.Mark mark.Comma in
      let z = token.Mark mark.RoundClose in
      let third : ((tokens_of t ++ z ∷ []) ++ rest) ≡ (tokens_of t ++ z ∷ rest) = append_assoc (tokens_of t) (z ∷ []) rest in
      let second : ((tokens_of i ++ (c ∷ tokens_of t ++ (z ∷ []))) ++ rest) ≡ (tokens_of i ++ (c ∷ (tokens_of t ++ z ∷ rest))) =
      append_assoc (tokens_of i) (c ∷ tokens_of t ++ (z ∷ [])) rest ∙ ap (λ (ts : List Token). tokens_of i ++ (c ∷ ts)) third in
      let whole : ((row_tokens a ++ (c ∷ tokens_of i ++ (c ∷ tokens_of t ++ (z ∷ [])))) ++ rest) ≡ (row_tokens a ++ (c ∷ (tokens_of i ++ (c ∷ (tokens_of t ++ z ∷ rest))))) =
      append_assoc (row_tokens a) (c ∷ tokens_of i ++ (c ∷ tokens_of t ++ (z ∷ []))) rest ∙ ap (λ (ts : List Token). row_tokens a ++ (c ∷ ts)) second in
      rw (whole, r, e, f, is) refl

  -- an operator that binds tightly enough takes its right side
  turn : (k d m : ℕ) (left right both : Found) (o : Operator) (ts : List Token) → next_operator left.rest ≡ Some (o, ts) → m ≤ level o → left.size.height < d
      → inner (level o + 1) ts ≡ Some right → join o left right ≡ Some both → more inner inner_row (suc k) d m left ≡ more inner inner_row k d m both
  unfolding more
  turn k d m left right both o ts e le lt r j = ap (more_by inner inner_row (more inner inner_row k d m) d m left) e ∙ rw (le-ltb _ _ le, lt-ltb _ _ lt, r, j) refl

joined_found : (a b : Tree) (o : Operator) (x y made : Value) (behind rest : List Token) → apply o x y ≡ Some made → join o (found a x behind) (found b y rest) ≡ Some (found (joined a o b) made rest)
joined_found a b o x y made behind rest e = rw e refl

begins : (d m : ℕ) (ts : List Token) (x : Found) → operand (expr d) (row d) m ts ≡ Some x → expr (suc d) m ts ≡ more (expr d) (row d) (suc d) (suc d) m x
unfolding readers
begins d m ts x e = ap (λ (r : Option Found). r >>= more (expr d) (row d) (suc d) (suc d) m) e

row_begins : (d : ℕ) (ts : List Token) → row (suc d) ts ≡ array_at (expr d) (row d) ts
unfolding readers
row_begins d ts = refl

-- the loop goes from a left side to the whole
goes_on : (a b : Tree) (o : Operator) (x y made : Value) (d m : ℕ) (rest : List Token) (out : Option Found) → m ≤ level o → (size_of (joined a o b)).height ≤ suc d
    → expr d (level o + 1) (tokens_of b ++ rest) ≡ Some (found b y rest) → apply o x y ≡ Some made
    → ((k : ℕ) → suc d < (size_of (joined a o b)).height + k → more (expr d) (row d) k (suc d) m (found (joined a o b) made rest) ≡ out)
    → (k : ℕ) → suc d < (size_of a).height + k → more (expr d) (row d) k (suc d) m (found a x (token.Operator o ∷ (tokens_of b ++ rest))) ≡ out
goes_on a b o x y made d m rest out least high right is h zero lt = let never : ⊥ = omega arith in absurd never
goes_on a b o x y made d m rest out least high right is h (suc k) lt =
    let after_a = token.Operator o ∷ (tokens_of b ++ rest) in
    turn (expr d) (row d) k (suc d) m (found a x after_a) (found b y rest) (found (joined a o b) made rest) o (tokens_of b ++ rest) refl least (omega arith) right
    (joined_found a b o x y made after_a rest is)
    ∙ h k (omega arith)

-- behind a part that a mark closes
at_mark : (m : Mark) (l : ℕ) (rest : List Token) → after mark.SquareOpen (token.Mark m ∷ rest) ≡ None → Follows l (token.Mark m ∷ rest)
at_mark m l rest e = record { no_index = e; no_count = refl; looser = tt }

stops_at_3 : (o : Option (Operator × List Token)) → IfSome o (λ x. level x.0 ≤ 3) → IfSome o (λ x. level x.0 < 3)
stops_at_3 None h = tt
stops_at_3 (Some x) h = level_apart x.0 h

stops_at : (l : ℕ) (o : Option (Operator × List Token)) → IfSome o (λ x. level x.0 ≤ l) → IfSome o (λ x. level x.0 < l + 1)
stops_at l None h = tt
stops_at l (Some x) h = omega arith

ends_at : (t : Tree) (v : Value) (d : ℕ) (m : Mark) (rest : List Token) (k : ℕ) → d < (size_of t).height + k → more (below d) (below_row d) k d 1 (found t v (token.Mark m ∷ rest)) ≡ Some (found t v (token.Mark m ∷ rest))
ends_at t v d m rest k lt = closes (below d) (below_row d) k d 1 (found t v (token.Mark m ∷ rest)) tt

mutual
  -- Whatever the loop makes of a tree and what follows it, reading makes of its tokens and what follows them.
  pub reads : (t : Tree) (v : Value) (d m : ℕ) (rest : List Token) (out : Option Found) → IsGrouped t → value_of t ≡ Some v → (size_of t).height ≤ d → m ≤ binds t → Follows (binds t) rest
      → ((k : ℕ) → d < (size_of t).height + k → more (below d) (below_row d) k d m (found t v rest) ≡ out) → expr d m (tokens_of t ++ rest) ≡ out
  reads t v zero m rest out g e high least f h = let low = height_positive t in let never : ⊥ = omega arith in absurd never
  reads (number n) v (suc d) m rest out g e high least f h = begins d m _ (found (number n) v rest) (operand_number (expr d) (row d) m n rest v e) ∙ h (suc d) (omega arith)
  reads (negative n) v (suc d) m rest out g e high least f h = begins d m _ (found (negative n) v rest) (operand_negative (expr d) (row d) m n rest v e) ∙ h (suc d) (omega arith)
  reads null v (suc d) m rest out g e high least f h = begins d m _ (found null v rest) (operand_null (expr d) (row d) m rest v e) ∙ h (suc d) (omega arith)
  reads always v (suc d) m rest out g e high least f h = begins d m _ (found always v rest) (operand_always (expr d) (row d) m rest v e) ∙ h (suc d) (omega arith)
  reads never v (suc d) m rest out g e high least f h = begins d m _ (found never v rest) (operand_never (expr d) (row d) m rest v e) ∙ h (suc d) (omega arith)
  reads (name x) v (suc d) m rest out g e high least f h =
      begins d m _ (found (name x) v rest) (read_name (expr d) (row d) m x (binds (name x)) rest f ∙ ap (λ (o : Option Value). o >>= λ w. Some (found (name x) w rest)) e) ∙ h (suc d) (omega arith)
  reads (element (array x) i) v (suc d) m rest out g e high least f h =
      let b = bind_some (value_of i) (grammar.element_of (tree.array (sym_of x))) v e in
      begins d m _ (found (element (array x) i) v rest)
      (read_element (expr d) (row d) m x i b.0 v rest (reads i b.0 d 1 (token.Mark mark.SquareClose ∷ rest) (Some (found i b.0 (token.Mark mark.SquareClose ∷ rest))) g.1 b.1 (omega arith) (binds_something i) (at_mark mark.SquareClose (binds i) rest refl) (ends_at i b.0 d mark.SquareClose rest)) b.2) ∙ h (suc d) (omega arith)
  reads (element (stored a j t) i) v (suc d) m rest out g e high least f h =
      let r = bind_some (row_of (stored a j t)) (λ w. value_of i >>= grammar.element_of w) v e in
      let b = bind_some (value_of i) (grammar.element_of r.0) v r.2 in
      begins d m _ (found (element (stored a j t) i) v rest)
      (read_stored_element (expr d) (row d) m a j t i r.0 b.0 v rest
      (reads_row (stored a j t) r.0 d _ g.0 r.1 (omega arith) refl)
      (reads i b.0 d 1 (token.Mark mark.SquareClose ∷ rest) (Some (found i b.0 (token.Mark mark.SquareClose ∷ rest))) g.1 b.1 (omega arith) (binds_something i) (at_mark mark.SquareClose (binds i) rest refl) (ends_at i b.0 d mark.SquareClose rest)) b.2) ∙ h (suc d) (omega arith)
  reads (truth t) v (suc d) m rest out g e high least f h =
      let b = bind_some (value_of t) grammar.truth_of v e in
      begins d m _ (found (truth t) v rest) (read_truth (expr d) (row d) m t b.0 v rest (reads t b.0 d 1 (token.Mark mark.RoundClose ∷ rest) (Some (found t b.0 (token.Mark mark.RoundClose ∷ rest))) g b.1 (omega arith) (binds_something t) (at_mark mark.RoundClose (binds t) rest refl) (ends_at t b.0 d mark.RoundClose rest)) b.2) ∙ h (suc d) (omega arith)
  reads (brackets t) v (suc d) m rest out g e high least f h =
      begins d m _ (found (brackets t) v rest) (read_brackets (expr d) (row d) m t v rest (reads t v d 1 (token.Mark mark.RoundClose ∷ rest) (Some (found t v (token.Mark mark.RoundClose ∷ rest))) g e (omega arith) (binds_something t) (at_mark mark.RoundClose (binds t) rest refl) (ends_at t v d mark.RoundClose rest))) ∙ h (suc d) (omega arith)
  reads (quotient t u) v (suc d) m rest out g e high least f h =
      let a = bind_some (value_of t) (λ x. value_of u >>= grammar.of_terms (grammar.term tree.divided) x) v e in
      let b = bind_some (value_of u) (grammar.of_terms (grammar.term tree.divided) a.0) v a.2 in
      let after_u = (tokens_of u ++ token.Mark mark.RoundClose ∷ []) ++ rest in
      begins d m _ (found (quotient t u) v rest)
      (read_quotient (expr d) (row d) m t u a.0 b.0 v rest (reads t a.0 d 1 (token.Mark mark.Slash ∷ after_u) (Some (found t a.0 (token.Mark mark.Slash ∷ after_u))) g.0 a.1 (omega arith) (binds_something t) (at_mark mark.Slash (binds t) after_u refl) (ends_at t a.0 d mark.Slash after_u)) (reads u b.0 d 1 (token.Mark mark.RoundClose ∷ rest) (Some (found u b.0 (token.Mark mark.RoundClose ∷ rest))) g.1 b.1 (omega arith) (binds_something u) (at_mark mark.RoundClose (binds u) rest refl) (ends_at u b.0 d mark.RoundClose rest)) b.2)
      ∙ h (suc d) (omega arith)
  reads (remainder t u) v (suc d) m rest out g e high least f h =
      let a = bind_some (value_of t) (λ x. value_of u >>= grammar.of_terms (grammar.term tree.remainder) x) v e in
      let b = bind_some (value_of u) (grammar.of_terms (grammar.term tree.remainder) a.0) v a.2 in
      let after_u = (tokens_of u ++ token.Mark mark.RoundClose ∷ []) ++ rest in
      begins d m _ (found (remainder t u) v rest)
      (read_remainder (expr d) (row d) m t u a.0 b.0 v rest (reads t a.0 d 1 (token.Mark mark.Percent ∷ after_u) (Some (found t a.0 (token.Mark mark.Percent ∷ after_u))) g.0 a.1 (omega arith) (binds_something t) (at_mark mark.Percent (binds t) after_u refl) (ends_at t a.0 d mark.Percent after_u)) (reads u b.0 d 1 (token.Mark mark.RoundClose ∷ rest) (Some (found u b.0 (token.Mark mark.RoundClose ∷ rest))) g.1 b.1 (omega arith) (binds_something u) (at_mark mark.RoundClose (binds u) rest refl) (ends_at u b.0 d mark.RoundClose rest)) b.2)
      ∙ h (suc d) (omega arith)
  reads (negation t) v (suc d) m rest out g e high least f h =
      let b = bind_some (value_of t) grammar.negated v e in
      let inside = reads t b.0 d 7 rest (Some (found t b.0 rest)) g.1 b.1 (omega arith) g.0 (follows_mono 7 (binds t) rest g.0 f)
      (λ k lt. closes (below d) (below_row d) k d 7 (found t b.0 rest) (all_small (next_operator rest))) in
      begins d m _ (found (negation t) v rest) (read_negation (expr d) (row d) m t b.0 v rest inside b.2) ∙ h (suc d) (omega arith)
  reads (denial t) v (suc d) m rest out g e high least f h =
      let b = bind_some (value_of t) grammar.denied v e in
      let inside = reads t b.0 d 3 rest (Some (found t b.0 rest)) g.1 b.1 (omega arith) g.0 (follows_mono 3 (binds t) rest g.0 f)
      (λ k lt. closes (below d) (below_row d) k d 3 (found t b.0 rest) (stops_at_3 (next_operator rest) f.looser)) in
      begins d m _ (found (denial t) v rest) (read_denial (expr d) (row d) m t b.0 v rest least inside b.2) ∙ h (suc d) (omega arith)
  reads (joined a o b) v (suc d) m rest out g e high least f h =
      let after_a = token.Operator o ∷ (tokens_of b ++ rest) in
      let x = bind_some (value_of a) (λ w. value_of b >>= apply o w) v e in
      let y = bind_some (value_of b) (apply o x.0) v x.2 in
      let right = reads b y.0 d (level o + 1) rest (Some (found b y.0 rest)) g.3 y.1 (omega arith) (omega (arith, g.1)) (follows_mono (level o) (binds b) rest (omega (arith, g.1)) f)
      (λ k lt. closes (below d) (below_row d) k d (level o + 1) (found b y.0 rest) (stops_at (level o) (next_operator rest) f.looser)) in
      let whole = reads a x.0 (suc d) m after_a out g.2 x.1 (omega arith) (omega (arith, g.0)) (record { no_index = refl; no_count = refl; looser = g.0 })
      (goes_on a b o x.0 y.0 v d m rest out least high right y.2 h) in
      ap (expr (suc d) m) (append_assoc (tokens_of a) (token.Operator o ∷ tokens_of b) rest) ∙ whole

  pub reads_row : (a : Row) (v : ArrayTree) (d : ℕ) (rest : List Token) → IsGroupedRow a → row_of a ≡ Some v → (row_size a).height ≤ d
      → count_after rest ≡ (0, rest) → row d (row_tokens a ++ rest) ≡ Some (found_row a v rest)
  reads_row (array x) v zero rest g e high f = let never : ⊥ = omega arith in absurd never
  reads_row (array x) v (suc d) rest g e high f =
      row_begins d _ ∙ read_array (expr d) (row d) x rest f ∙ ap (λ (o : Option ArrayTree). o >>= λ w. Some (found_row (array x) w rest)) e
  reads_row (stored a i t) v zero rest g e high f = let never : ⊥ = omega arith in absurd never
  reads_row (stored a i t) v (suc d) rest g e high f =
      let r = bind_some (row_of a) (λ w. value_of i >>= λ x. value_of t >>= grammar.stored_of w x) v e in
      let x = bind_some (value_of i) (λ x. value_of t >>= grammar.stored_of r.0 x) v r.2 in
      let y = bind_some (value_of t) (grammar.stored_of r.0 x.0) v x.2 in
      let after_i = tokens_of t ++ token.Mark mark.RoundClose ∷ rest in
      row_begins d _
      ∙ read_stored (expr d) (row d) a i t r.0 v x.0 y.0 rest
      (reads_row a r.0 d _ g.0 r.1 (omega arith) refl)
      (reads i x.0 d 1 (token.Mark mark.Comma ∷ after_i) (Some (found i x.0 (token.Mark mark.Comma ∷ after_i))) g.1 x.1 (omega arith) (binds_something i) (at_mark mark.Comma (binds i) after_i refl) (ends_at i x.0 d mark.Comma after_i))
      (reads t y.0 d 1 (token.Mark mark.RoundClose ∷ rest) (Some (found t y.0 (token.Mark mark.RoundClose ∷ rest))) g.2 y.1 (omega arith) (binds_something t) (at_mark mark.RoundClose (binds t) rest refl) (ends_at t y.0 d mark.RoundClose rest)) y.2
