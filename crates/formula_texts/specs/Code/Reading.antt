-- Reading forms and terms from a list of tokens.
use Rattle.std.specs.Prelude.{⊤, ◌≡◌, ℕ, ℤ, pos, neg_ℤ, zero, suc, ◌+◌, Bool, ◌&&◌, ◌==◌, nat_lt, nat_le, if◌then◌else◌, List, [], ◌∷◌, Option, Some, None, Result, Ok, Err}
use Rattle.c_lang.specs.Names.{Bytes}
use Rattle.terms.specs.declared.sym.Sym.{Sym}
use Rattle.terms.specs.Trees as tree
use Rattle.terms.specs.Trees.{ArrayTree}
use Rattle.formula_texts.specs.declared.token.Token.{Token}
use Rattle.formula_texts.specs.declared.token.Token.TheVariants as token
use Rattle.formula_texts.specs.declared.token.Operator.{Operator}
use Rattle.formula_texts.specs.declared.token.Operator.TheVariants as op
use Rattle.formula_texts.specs.declared.token.Mark.{Mark}
use Rattle.formula_texts.specs.declared.token.Mark.TheVariants as mark
use Rattle.formula_texts.specs.declared.value.Value.{Value}
use Rattle.formula_texts.specs.declared.value.Value.TheVariants as value
use Rattle.formula_texts.specs.declared.size.Size.{Size}
use Rattle.formula_texts.specs.declared.stop.Stop.{Stop}
use Rattle.formula_texts.specs.declared.stop.Stop.TheVariants as stop
use Rattle.formula_texts.specs.Grammar.{◌>>=◌, level, not_level, sign_level, leaf_size, grown, larger, term, of_terms, apply, element_of, truth_of, negated, denied, stored_of}

-- a function answered what reading gives, unless memory ran out
abbrev pub Fails : {Y : Type 0} → Stop → Option Y → Type 0
Fails stop.NoMemory read = ⊤
Fails stop.NoText read = read ≡ None

abbrev pub Gives : {X Y : Type 0} → (X → Y) → Result X Stop → Option Y → Type 0
Gives view (Ok x) read = read ≡ Some (view x)
Gives view (Err e) read = Fails e read

-- a form or a term at the front, its size, and what follows it
pub record Found : Type 0 where
  pub value : Value
  pub size : Size
  pub rest : List Token

-- an array at the front
pub record FoundRow : Type 0 where
  pub row : ArrayTree
  pub size : Size
  pub rest : List Token

abbrev pub Parse : Type 0
Parse = List Token → Option Found

abbrev pub ParseRow : Type 0
ParseRow = List Token → Option FoundRow

-- ---- single tokens

abbrev pub mark_number : Mark → ℕ
mark_number mark.RoundOpen = 0
mark_number mark.RoundClose = 1
mark_number mark.SquareOpen = 2
mark_number mark.SquareClose = 3
mark_number mark.Comma = 4
mark_number mark.Slash = 5
mark_number mark.Percent = 6

abbrev pub mark_by : Mark → Token → List Token → Option (List Token)
mark_by m (token.Mark found) ts = if mark_number found == mark_number m then Some ts else None
mark_by m _ ts = None

-- the rest after this mark
abbrev pub after : Mark → List Token → Option (List Token)
after m [] = None
after m (t ∷ ts) = mark_by m t ts

abbrev pub count_by : Token → List Token → ℕ × List Token
count_by (token.Count n) ts = (n, ts)
count_by t ts = (0, t ∷ ts)

-- the count behind a base, and the rest
abbrev pub count_after : List Token → ℕ × List Token
count_after [] = (0, [])
count_after (t ∷ ts) = count_by t ts

-- a name whose base stands before the tokens, and the rest
abbrev pub name_after : Bytes → List Token → Sym × List Token
name_after x ts = (record { base = x; count = (count_after ts).0 }, (count_after ts).1)

abbrev pub natural : ℤ → Option ℤ
natural (pos n) = Some (pos n)
natural z = None

abbrev pub numbered : Token → Option ℤ
numbered (token.Number z) = natural z
numbered _ = None

abbrev pub operator_of : Token → Option Operator
operator_of (token.Operator o) = Some o
operator_of _ = None

abbrev pub next_by : Option Operator → List Token → Option (Operator × List Token)
next_by None ts = None
next_by (Some o) ts = Some (o, ts)

abbrev pub next_operator : List Token → Option (Operator × List Token)
next_operator [] = None
next_operator (t ∷ ts) = next_by (operator_of t) ts

-- ---- what is made of the parts

abbrev pub leaf : Value → List Token → Found
leaf x ts = record { value = x; size = leaf_size; rest = ts }

abbrev pub number_leaf : List Token → ℤ → Option Found
number_leaf ts z = Some (leaf (value.Term (tree.number z)) ts)

abbrev pub natural_leaf : ℤ → List Token → Option Found
natural_leaf z ts = natural z >>= number_leaf ts

-- a number behind its sign
abbrev pub negative_leaf : List Token → Option Found
negative_leaf [] = None
negative_leaf (t ∷ ts) = numbered t >>= λ z. number_leaf ts (neg_ℤ z)

-- so many brackets and operators more, around a value that is made of the one that was found
abbrev pub around : ℕ → ℕ → (Value → Option Value) → Found → Option Found
around b o f x = f x.value >>= λ made. Some (record { value = made; size = grown b o x.size; rest = x.rest })

abbrev pub closed : Mark → Found → Option Found
closed m x = after m x.rest >>= λ rest. Some (record { value = x.value; size = x.size; rest = rest })

abbrev pub pair : ℕ → (Value → Value → Option Value) → Found → Found → Option Found
pair b f x y = f x.value y.value >>= λ made. Some (record { value = made; size = grown b 1 (larger x.size y.size); rest = y.rest })

abbrev pub indexed : FoundRow → Found → Option Found
indexed a i =
    element_of a.row i.value >>= λ made.
    Some (record { value = made; size = larger (grown 0 0 a.size) (grown 1 1 i.size); rest = i.rest })

abbrev pub store : FoundRow → Found → Found → Option FoundRow
store a i t =
    stored_of a.row i.value t.value >>= λ made.
    Some (record { row = made; size = grown 1 1 (larger a.size (larger i.size t.size)); rest = t.rest })

abbrev pub array_leaf : Sym × List Token → FoundRow
array_leaf x = record { row = tree.array x.0; size = leaf_size; rest = x.1 }

abbrev pub join : Operator → Found → Found → Option Found
join o = pair 0 (apply o)

-- ---- inner reads what is less high, whose operators outside brackets bind at least so tightly; inner_row an array

module _ (inner : ℕ → Parse) (inner_row : ParseRow) where
  -- the index of an array, behind `[`
  abbrev pub index_at : FoundRow → List Token → Option Found
  index_at a ts = inner 1 ts >>= λ i. closed mark.SquareClose i >>= indexed a

  abbrev pub named_by : Sym × List Token → Option (List Token) → Option Found
  named_by x None = Some (leaf (value.Term (tree.name x.0)) x.1)
  named_by x (Some inside) = index_at (array_leaf x) inside

  abbrev pub named : Sym × List Token → Option Found
  named x = named_by x (after mark.SquareOpen x.1)

  -- what stands behind a `(` and a first term or form
  abbrev pub bracket_by : Found → Option (List Token) → Option (List Token) → Option Found
  bracket_by x (Some ts) other = inner 1 ts >>= λ y. closed mark.RoundClose y >>= pair 1 (of_terms (term tree.divided)) x
  bracket_by x None (Some ts) = inner 1 ts >>= λ y. closed mark.RoundClose y >>= pair 1 (of_terms (term tree.remainder)) x
  bracket_by x None None = closed mark.RoundClose x >>= around 1 0 (λ v. Some v)

  abbrev pub bracket : Found → Option Found
  bracket x = bracket_by x (after mark.Slash x.rest) (after mark.Percent x.rest)

  -- an array that is stored to, behind `$store`
  unfoldable pub store_at : ParseRow
  store_at ts =
      after mark.RoundOpen ts >>= λ inside. inner_row inside >>= λ a.
      after mark.Comma a.rest >>= λ second. inner 1 second >>= λ i.
      after mark.Comma i.rest >>= λ third. inner 1 third >>= λ t.
      closed mark.RoundClose t >>= store a i

  abbrev pub element_at : List Token → Option Found
  element_at ts = inner_row ts >>= λ a. after mark.SquareOpen a.rest >>= index_at a

  abbrev pub operator_by : Operator → List Token → Option Found
  operator_by op.Minus ts = inner sign_level ts >>= around 0 1 negated
  operator_by op.TightMinus ts = negative_leaf ts
  operator_by _ ts = None

  abbrev pub bracket_at : List Token → Option Found
  bracket_at ts = inner 1 ts >>= bracket

  abbrev pub open_by : Mark → List Token → Option Found
  open_by mark.RoundOpen ts = bracket_at ts
  open_by _ ts = None

  abbrev pub truth_at : List Token → Option Found
  truth_at ts = after mark.RoundOpen ts >>= λ inside. inner 1 inside >>= λ f. closed mark.RoundClose f >>= around 1 1 truth_of

  abbrev pub not_at : ℕ → List Token → Option Found
  not_at m ts = if nat_lt not_level m then None else (inner not_level ts >>= around 0 1 denied)

  abbrev pub operand_by : ℕ → Token → List Token → Option Found
  operand_by m (token.Number z) ts = natural_leaf z ts
  operand_by m (token.Base x) ts = named (name_after x ts)
  operand_by m token.Null ts = number_leaf ts (pos 0)
  operand_by m token.True ts = Some (leaf (value.Form tree.always) ts)
  operand_by m token.False ts = Some (leaf (value.Form tree.never) ts)
  operand_by m token.Truth ts = truth_at ts
  operand_by m token.Store ts = element_at (token.Store ∷ ts)
  operand_by m token.Not ts = not_at m ts
  operand_by m (token.Operator o) ts = operator_by o ts
  operand_by m (token.Mark k) ts = open_by k ts
  operand_by m (token.Count n) ts = None

  unfoldable pub operand : ℕ → Parse
  operand m [] = None
  operand m (t ∷ ts) = operand_by m t ts

  abbrev pub array_by : Token → List Token → Option FoundRow
  array_by (token.Base x) ts = Some (array_leaf (name_after x ts))
  array_by token.Store ts = store_at ts
  array_by _ ts = None

  unfoldable pub array_at : ParseRow
  array_at [] = None
  array_at (t ∷ ts) = array_by t ts

  abbrev pub more_by : (Found → Option Found) → ℕ → ℕ → Found → Option (Operator × List Token) → Option Found
  more_by go d m left None = Some left
  more_by go d m left (Some (o, ts)) =
      if nat_lt (level o) m then Some left else
      (if nat_lt left.size.height d then inner (level o + 1) ts >>= (λ right. join o left right >>= go) else None)

  -- the first number bounds the turns
  unfoldable pub more : ℕ → ℕ → ℕ → Found → Option Found
  more zero d m left = Some left
  more (suc k) d m left = more_by (more k d m) d m left (next_operator left.rest)

-- ---- at most d high

pub record Readers : Type 0 where
  pub value : ℕ → Parse
  pub row : ParseRow

unfoldable pub readers : ℕ → Readers
readers zero = record { value = λ m ts. None; row = λ ts. None }
readers (suc d) =
    let inner = (readers d).value in
    let inner_row = (readers d).row in
    record { value = λ m ts. operand inner inner_row m ts >>= more inner inner_row (suc d) (suc d) m; row = array_at inner inner_row }

-- ---- whole lists of tokens

-- nothing within the limits is higher
abbrev pub height_limit : ℕ → ℕ → ℕ
height_limit b o = b + o + 1

abbrev pub is_small : ℕ → ℕ → Size → Bool
is_small b o s = nat_le s.brackets b && nat_le s.operators o

abbrev pub ended_by : ℕ → ℕ → Found → List Token → Option Value
ended_by b o x [] = if is_small b o x.size then Some x.value else None
ended_by b o x (t ∷ ts) = None

-- the form or term that the tokens are, with at most b brackets and o operators
unfoldable pub value_in : ℕ → ℕ → List Token → Option Value
value_in b o ts = (readers (height_limit b o)).value 1 ts >>= λ x. ended_by b o x x.rest

abbrev pub whole_name : Sym × List Token → Option Sym
whole_name (x, []) = Some x
whole_name (x, t ∷ ts) = None

abbrev pub name_by : Token → List Token → Option Sym
name_by (token.Base x) ts = whole_name (name_after x ts)
name_by _ ts = None

unfoldable pub name_in : List Token → Option Sym
name_in [] = None
name_in (t ∷ ts) = name_by t ts
