-- The grammar of forms and terms, by cases on trees that keep every token.
use Rattle.std.specs.Prelude.{⊤, ℕ, pos, neg_ℤ, ◌+◌, ◌<◌, ◌≤◌, max, List, [], ◌∷◌, ◌++◌, Option, Some, None}
use Rattle.c_lang.specs.Names.{Bytes}
use Rattle.terms.specs.declared.sym.Sym.{Sym}
use Rattle.terms.specs.Trees as tree
use Rattle.terms.specs.Trees.{TermTree, ArrayTree, FormTree}
use Rattle.formula_texts.specs.declared.token.Token.{Token}
use Rattle.formula_texts.specs.declared.token.Token.TheVariants as token
use Rattle.formula_texts.specs.declared.token.Operator.{Operator}
use Rattle.formula_texts.specs.declared.token.Operator.TheVariants as op
use Rattle.formula_texts.specs.declared.token.Mark.TheVariants as mark
use Rattle.formula_texts.specs.declared.value.Value.{Value}
use Rattle.formula_texts.specs.declared.value.Value.TheVariants as value
use Rattle.formula_texts.specs.declared.size.Size.{Size}

-- a base, and perhaps a count
pub data NameText : Type 0 where
  plain : Bytes → NameText
  counted : Bytes → ℕ → NameText

mutual
  -- a form or a term as it is written, with its brackets
  pub data Tree : Type 0 where
    number : ℕ → Tree
    negative : ℕ → Tree
    null : Tree
    always : Tree
    never : Tree
    name : NameText → Tree
    element : Row → Tree → Tree
    truth : Tree → Tree
    brackets : Tree → Tree
    quotient : Tree → Tree → Tree
    remainder : Tree → Tree → Tree
    negation : Tree → Tree
    denial : Tree → Tree
    joined : Tree → Operator → Tree → Tree

  -- what may stand before an index
  pub data Row : Type 0 where
    array : NameText → Row
    stored : Row → Tree → Tree → Row

-- ---- tokens

abbrev pub name_tokens : NameText → List Token
name_tokens (plain x) = token.Base x ∷ []
name_tokens (counted x n) = token.Base x ∷ token.Count n ∷ []

abbrev mutual
  pub tokens_of : Tree → List Token
  tokens_of (number n) = token.Number (pos n) ∷ []
  tokens_of (negative n) = token.Operator op.TightMinus ∷ token.Number (pos n) ∷ []
  tokens_of null = token.Null ∷ []
  tokens_of always = token.True ∷ []
  tokens_of never = token.False ∷ []
  tokens_of (name x) = name_tokens x
  tokens_of (element a i) = row_tokens a ++ (token.Mark mark.SquareOpen ∷ tokens_of i ++ (token.Mark mark.SquareClose ∷ []))
  tokens_of (truth f) = token.Truth ∷ token.Mark mark.RoundOpen ∷ tokens_of f ++ (token.Mark mark.RoundClose ∷ [])
  tokens_of (brackets t) = token.Mark mark.RoundOpen ∷ tokens_of t ++ (token.Mark mark.RoundClose ∷ [])
  tokens_of (quotient t u) = token.Mark mark.RoundOpen ∷ tokens_of t ++ (token.Mark mark.Slash ∷ tokens_of u ++ (token.Mark mark.RoundClose ∷ []))
  tokens_of (remainder t u) = token.Mark mark.RoundOpen ∷ tokens_of t ++ (token.Mark mark.Percent ∷ tokens_of u ++ (token.Mark mark.RoundClose ∷ []))
  tokens_of (negation t) = token.Operator op.Minus ∷ tokens_of t
  tokens_of (denial f) = token.Not ∷ tokens_of f
  tokens_of (joined a o b) = tokens_of a ++ (token.Operator o ∷ tokens_of b)

  pub row_tokens : Row → List Token
  row_tokens (array x) = name_tokens x
  row_tokens (stored a i t) =
      token.Store ∷ token.Mark mark.RoundOpen ∷ row_tokens a
      ++ (token.Mark mark.Comma ∷ tokens_of i ++ (token.Mark mark.Comma ∷ tokens_of t ++ (token.Mark mark.RoundClose ∷ [])))

-- ---- grouping

-- How tightly an operator binds. `not` stands between `and` and the comparisons, a sign above all others.
abbrev pub level : Operator → ℕ
level op.Or = 1
level op.And = 2
level op.Less = 4
level op.AtMost = 4
level op.Greater = 4
level op.AtLeast = 4
level op.Equal = 4
level op.Unequal = 4
level op.Plus = 5
level op.Minus = 5
level op.TightMinus = 5
level op.Times = 6

abbrev pub not_level : ℕ
not_level = 3

abbrev pub sign_level : ℕ
sign_level = 7

-- how tightly the outermost operator binds
abbrev pub binds : Tree → ℕ
binds (joined a o b) = level o
binds (denial f) = not_level
binds _ = sign_level

-- Chains group to the left, and the tighter operator first.
abbrev mutual
  pub IsGrouped : Tree → Type 0
  IsGrouped (number n) = ⊤
  IsGrouped (negative n) = ⊤
  IsGrouped null = ⊤
  IsGrouped always = ⊤
  IsGrouped never = ⊤
  IsGrouped (name x) = ⊤
  IsGrouped (element a i) = IsGroupedRow a × IsGrouped i
  IsGrouped (truth f) = IsGrouped f
  IsGrouped (brackets t) = IsGrouped t
  IsGrouped (quotient t u) = IsGrouped t × IsGrouped u
  IsGrouped (remainder t u) = IsGrouped t × IsGrouped u
  IsGrouped (negation t) = (sign_level ≤ binds t) × IsGrouped t
  IsGrouped (denial f) = (not_level ≤ binds f) × IsGrouped f
  IsGrouped (joined a o b) = (level o ≤ binds a) × (level o < binds b) × IsGrouped a × IsGrouped b

  pub IsGroupedRow : Row → Type 0
  IsGroupedRow (array x) = ⊤
  IsGroupedRow (stored a i t) = IsGroupedRow a × IsGrouped i × IsGrouped t

-- ---- sizes

abbrev pub leaf_size : Size
leaf_size = record { height = 1; brackets = 0; operators = 0 }

-- one part higher, with so many brackets and operators more
abbrev pub grown : ℕ → ℕ → Size → Size
grown b o s = record { height = s.height + 1; brackets = s.brackets + b; operators = s.operators + o }

abbrev pub larger : Size → Size → Size
larger s r = record { height = max s.height r.height; brackets = max s.brackets r.brackets; operators = max s.operators r.operators }

abbrev mutual
  pub size_of : Tree → Size
  size_of (number n) = leaf_size
  size_of (negative n) = leaf_size
  size_of null = leaf_size
  size_of always = leaf_size
  size_of never = leaf_size
  size_of (name x) = leaf_size
  size_of (element a i) = larger (grown 0 0 (row_size a)) (grown 1 1 (size_of i))
  size_of (truth f) = grown 1 1 (size_of f)
  size_of (brackets t) = grown 1 0 (size_of t)
  size_of (quotient t u) = grown 1 1 (larger (size_of t) (size_of u))
  size_of (remainder t u) = grown 1 1 (larger (size_of t) (size_of u))
  size_of (negation t) = grown 0 1 (size_of t)
  size_of (denial f) = grown 0 1 (size_of f)
  size_of (joined a o b) = grown 0 1 (larger (size_of a) (size_of b))

  pub row_size : Row → Size
  row_size (array x) = leaf_size
  row_size (stored a i t) = grown 1 1 (larger (row_size a) (larger (size_of i) (size_of t)))

-- ---- what a tree stands for

infixl 10 ◌>>=◌
abbrev pub ◌>>=◌ : {A B : Type 0} → Option A → (A → Option B) → Option B
None >>= f = None
(Some a) >>= f = f a

abbrev pub sym_of : NameText → Sym
sym_of (plain x) = record { base = x; count = 0 }
sym_of (counted x n) = record { base = x; count = n }

abbrev pub term_in : Value → Option TermTree
term_in (value.Term t) = Some t
term_in (value.Form f) = None

abbrev pub form_in : Value → Option FormTree
form_in (value.Form f) = Some f
form_in (value.Term t) = None

abbrev pub of_term : (TermTree → Value) → Value → Option Value
of_term f x = term_in x >>= λ t. Some (f t)

abbrev pub of_form : (FormTree → Value) → Value → Option Value
of_form f x = form_in x >>= λ g. Some (f g)

abbrev pub of_terms : (TermTree → TermTree → Value) → Value → Value → Option Value
of_terms f x y = term_in x >>= λ t. term_in y >>= λ u. Some (f t u)

abbrev pub of_forms : (FormTree → FormTree → Value) → Value → Value → Option Value
of_forms f x y = form_in x >>= λ g. form_in y >>= λ h. Some (f g h)

abbrev pub term : (TermTree → TermTree → TermTree) → TermTree → TermTree → Value
term f t u = value.Term (f t u)

abbrev pub form : (FormTree → FormTree → FormTree) → FormTree → FormTree → Value
form f g h = value.Form (f g h)

abbrev pub next : TermTree → TermTree
next t = tree.plus t (tree.number (pos 1))

abbrev pub apply : Operator → Value → Value → Option Value
apply op.Or = of_forms (form tree.either)
apply op.And = of_forms (form tree.both)
apply op.Less = of_terms (λ t u. value.Form (tree.at_most (next t) u))
apply op.AtMost = of_terms (λ t u. value.Form (tree.at_most t u))
apply op.Greater = of_terms (λ t u. value.Form (tree.at_most (next u) t))
apply op.AtLeast = of_terms (λ t u. value.Form (tree.at_most u t))
apply op.Equal = of_terms (λ t u. value.Form (tree.equal t u))
apply op.Unequal = of_terms (λ t u. value.Form (tree.denied (tree.equal t u)))
apply op.Plus = of_terms (term tree.plus)
apply op.Minus = of_terms (term tree.minus)
apply op.TightMinus = of_terms (term tree.minus)
apply op.Times = of_terms (term tree.times)

abbrev pub element_of : ArrayTree → Value → Option Value
element_of a = of_term (λ i. value.Term (tree.read a i))

abbrev pub truth_of : Value → Option Value
truth_of = of_form (λ f. value.Term (tree.truth f))

abbrev pub negated : Value → Option Value
negated = of_term (λ t. value.Term (tree.minus (tree.number (pos 0)) t))

abbrev pub denied : Value → Option Value
denied = of_form (λ f. value.Form (tree.denied f))

abbrev pub stored_of : ArrayTree → Value → Value → Option ArrayTree
stored_of a x y = term_in x >>= λ i. term_in y >>= λ t. Some (tree.stored a i t)

-- A tree stands for a form or a term, if its parts are forms and terms where they have to be.
abbrev mutual
  pub value_of : Tree → Option Value
  value_of (number n) = Some (value.Term (tree.number (pos n)))
  value_of (negative n) = Some (value.Term (tree.number (neg_ℤ (pos n))))
  value_of null = Some (value.Term (tree.number (pos 0)))
  value_of always = Some (value.Form tree.always)
  value_of never = Some (value.Form tree.never)
  value_of (name x) = Some (value.Term (tree.name (sym_of x)))
  value_of (element a i) = row_of a >>= λ row. value_of i >>= element_of row
  value_of (truth f) = value_of f >>= truth_of
  value_of (brackets t) = value_of t
  value_of (quotient t u) = value_of t >>= λ x. value_of u >>= of_terms (term tree.divided) x
  value_of (remainder t u) = value_of t >>= λ x. value_of u >>= of_terms (term tree.remainder) x
  value_of (negation t) = value_of t >>= negated
  value_of (denial f) = value_of f >>= denied
  value_of (joined a o b) = value_of a >>= λ x. value_of b >>= apply o x

  pub row_of : Row → Option ArrayTree
  row_of (array x) = Some (tree.array (sym_of x))
  row_of (stored a i t) = row_of a >>= λ row. value_of i >>= λ x. value_of t >>= stored_of row x
