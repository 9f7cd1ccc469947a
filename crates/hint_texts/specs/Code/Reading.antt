-- Reading tokens.
use Rattle.std.specs.Prelude.{⊤, ◌≡◌, ℕ, ℤ, pos, Bool, false, not, ◌&&◌, ◌==◌, nat_lt, nat_le, bytes_eq, if◌then◌else◌, List, [], ◌∷◌, ◌++◌, drop, flat_map, Option, Some, None, codes}
use Rattle.std.specs.List.{list_all, prefix_len}
use Rattle.c_lang.specs.Names.{Bytes}
use Rattle.terms.specs.Trees.{TermTree, FormTree}
use Rattle.formula_texts.specs.declared.token.Token.{Token as FormulaToken}
use Rattle.formula_texts.specs.declared.token.Token.TheVariants as token
use Rattle.formula_texts.specs.declared.token.Mark.{Mark}
use Rattle.formula_texts.specs.declared.token.Mark.TheVariants as mark
use Rattle.formula_texts.specs.declared.value.Value.{Value}
use Rattle.formula_texts.specs.Grammar.{◌>>=◌, term_in, form_in}
use Rattle.formula_texts.specs.Code.Reading.{mark_number, value_in}
use Rattle.hint_texts.specs.declared.fault.Fault.{Fault}
use Rattle.hint_texts.specs.declared.fault.Fault.TheVariants as fault
use Rattle.hint_texts.specs.declared.token.Token.{Token}
use Rattle.hint_texts.specs.declared.token.Kind.{Kind}
use Rattle.hint_texts.specs.declared.token.Kind.TheVariants as kind
use Rattle.hint_texts.specs.declared.token.Closing.{Closing}
use Rattle.hint_texts.specs.declared.token.Closing.TheVariants as closing
use Rattle.hint_texts.specs.declared.hints.Quantified.{Quantified}
use Rattle.hint_texts.specs.declared.hints.Clause.{Clause}
use Rattle.hint_texts.specs.declared.hints.ClauseKind.{ClauseKind}
use Rattle.hint_texts.specs.declared.hints.ClauseKind.TheVariants as clause
use Rattle.hint_texts.specs.declared.hints.Head.{Head}
use Rattle.hint_texts.specs.declared.hints.Head.TheVariants as head
use Rattle.hint_texts.specs.declared.hints.Item.{Item}
use Rattle.hint_texts.specs.declared.hints.Statement.{Statement}
use Rattle.hint_texts.specs.declared.hints.Statement.TheVariants as statement
use Rattle.hint_texts.specs.Tokens.{number_limit}
use Rattle.hint_texts.specs.Grammar.{bracket_limit, operator_limit, entry_base, plain_fact, every}
use Rattle.hint_texts.specs.Texts.{statements_of, is_item, is_nested}
use Rattle.hint_texts.specs.Code.Runs.{Step, parts_in}
use Rattle.hint_texts.specs.Code.Lexing.{tokens_in}

-- ---- single tokens

abbrev pub name_in : Kind → Option Bytes
name_in (kind.Name x) = Some x
name_in _ = None

abbrev pub named_by : List Token → Option Bytes → Option (Bytes × List Token)
named_by ts None = None
named_by ts (Some x) = Some (x, ts)

abbrev pub name_at : Step Token Bytes
name_at [] = None
name_at (t ∷ ts) = named_by ts (name_in t.kind)

abbrev pub is_mark_token : Mark → FormulaToken → Bool
is_mark_token m (token.Mark k) = mark_number k == mark_number m
is_mark_token m _ = false

abbrev pub is_mark : Mark → Kind → Bool
is_mark m (kind.Part t) = is_mark_token m t
is_mark m _ = false

abbrev pub mark_at : Mark → List Token → Option (List Token)
mark_at m [] = None
mark_at m (t ∷ ts) = if is_mark m t.kind then Some ts else None

abbrev pub small_number : ℤ → Option ℕ
small_number (pos n) = if nat_le n number_limit then Some n else None
small_number _ = None

abbrev pub number_token : FormulaToken → Option ℕ
number_token (token.Number z) = small_number z
number_token _ = None

abbrev pub number_in : Kind → Option ℕ
number_in (kind.Part t) = number_token t
number_in _ = None

abbrev pub numbered_by : List Token → Option ℕ → Option (ℕ × List Token)
numbered_by ts None = None
numbered_by ts (Some n) = Some (n, ts)

abbrev pub number_at : Step Token ℕ
number_at [] = None
number_at (t ∷ ts) = numbered_by ts (number_in t.kind)

abbrev pub closing_number : Closing → ℕ
closing_number closing.Semicolon = 0
closing_number closing.Colon = 1
closing_number closing.Range = 2

abbrev pub is_closing : Closing → Kind → Bool
is_closing c (kind.Closing d) = closing_number d == closing_number c
is_closing c _ = false

abbrev pub with_first : Token → Option (List Token × List Token) → Option (List Token × List Token)
with_first t None = None
with_first t (Some x) = Some (t ∷ x.0, x.1)

-- how many tokens stand before the first such end
abbrev pub length_to : Closing → List Token → ℕ
length_to c ts = prefix_len (λ t. not (is_closing c t.kind)) ts

-- what stands before the first such end, and what stands behind it
abbrev pub cut : Closing → List Token → Option (List Token × List Token)
cut c [] = None
cut c (t ∷ ts) = if is_closing c t.kind then Some ([], ts) else with_first t (cut c ts)

-- ---- formulas

abbrev pub opens : List Token → Bool
opens [] = false
opens (t ∷ ts) = is_mark mark.RoundOpen t.kind

-- behind `pre`
abbrev pub entry_at : Step Token FormulaToken
entry_at ts = mark_at mark.RoundOpen ts >>= λ us. name_at us >>= λ g. mark_at mark.RoundClose g.1 >>= λ vs. Some (token.Base (entry_base g.0), vs)

abbrev pub named : Bytes → Step Token FormulaToken
named x ts = if bytes_eq x (codes "pre") && opens ts then entry_at ts else Some (token.Base x, ts)

-- ---- what needs no numbers of functions

abbrev pub is_word : Bytes → Kind → Bool
is_word word (kind.Name x) = bytes_eq x word
is_word word _ = false

abbrev pub first_name : List Token → Option Bytes
first_name [] = None
first_name (t ∷ ts) = name_in t.kind

-- the name behind `forall`
abbrev pub quantified_name : List Token → Option Bytes
quantified_name [] = None
quantified_name (t ∷ ts) = if is_word (codes "forall") t.kind then first_name ts else None

abbrev pub word_at : Bytes → List Token → Option (List Token)
word_at word [] = None
word_at word (t ∷ ts) = if is_word word t.kind then Some ts else None

-- a comma and a name
abbrev pub next_at : Step Token Bytes
next_at ts = mark_at mark.Comma ts >>= name_at

abbrev pub more_names : Bytes → List Token → Option (List Bytes)
more_names x ts = parts_in next_at ts >>= λ xs. Some (x ∷ xs)

abbrev pub names_of : List Token → Option (List Bytes)
names_of [] = Some []
names_of (t ∷ ts) = name_in t.kind >>= λ x. more_names x ts

-- up to a `;`
abbrev pub names_at : Step Token (List Bytes)
names_at ts = cut closing.Semicolon ts >>= λ x. names_of x.0 >>= λ xs. Some (xs, x.1)

abbrev pub said : ℕ → List Token → ClauseKind → Statement × List Token
said line rest k = (statement.Says (record { line = line; kind = k }), rest)

abbrev pub assigns_clause : ℕ → Step Token Statement
assigns_clause line ts = names_at ts >>= λ x. Some (said line x.1 (clause.Assigns x.0))

abbrev pub begins : (Bytes → Head) → ℕ → Step Token Statement
begins head_of line ts = name_at ts >>= λ f. Some (statement.Begins line (head_of f.0), f.1)

abbrev pub loop_begins : ℕ → Step Token Statement
loop_begins line ts = name_at ts >>= λ f. number_at f.1 >>= λ n. Some (statement.Begins line (head.Loop f.0 n.0), n.1)

abbrev pub with_statement : Statement → List Clause × List Item → List Clause × List Item
with_statement (statement.Says c) x = (c ∷ x.0, x.1)
with_statement (statement.Begins l h) x = ([], record { head = h; line = l; clauses = x.0 } ∷ x.1)

abbrev pub begun : ℕ → Head → Item
begun line h = record { head = h; line = line; clauses = [] }

abbrev pub with_clause : Item → Clause → Item
with_clause item c = record { head = item.head; line = item.line; clauses = item.clauses ++ c ∷ [] }

abbrev pub statements_in : List Item → List Statement
statements_in items = flat_map statements_of items

-- a clause can't stand before the first item
abbrev pub IsAlone : List Item → Fault → Type 0
IsAlone items fault.NoMemory = ⊤
IsAlone items (fault.NoText line) = items ≡ []

abbrev pub CannotStand : List Item → Statement → Fault → Type 0
CannotStand items s fault.NoMemory = ⊤
CannotStand items (statement.Begins l h) (fault.NoText line) = ⊥
CannotStand items (statement.Says c) (fault.NoText line) = items ≡ []

-- the clauses before the first item, and the items
abbrev pub group : List Statement → List Clause × List Item
group [] = ([], [])
group (s ∷ ss) = with_statement s (group ss)

abbrev pub without_clauses : List Clause × List Item → Option (List Item)
without_clauses ([], items) = Some items
without_clauses (c ∷ cs, items) = None

abbrev pub grouped : List Statement → Option (List Item)
grouped ss = without_clauses (group ss)

abbrev pub kept_by : List Token → List Item → Option (List Item)
kept_by ts items = if is_nested 0 ts && list_all is_item items then Some items else None

module _ (number : Bytes → ℕ) where
  -- behind `&`
  abbrev pub function_at : Step Token FormulaToken
  function_at ts = name_at ts >>= λ f. if nat_lt 0 (number f.0) then Some (token.Number (pos (number f.0)), f.1) else None

  abbrev pub part_by : Kind → Step Token FormulaToken
  part_by (kind.Part t) ts = Some (t, ts)
  part_by (kind.Cell x) ts = Some (token.Base x, ts)
  part_by (kind.Name x) ts = named x ts
  part_by kind.Function ts = function_at ts
  part_by (kind.Closing c) ts = None

  abbrev pub part_at : Step Token FormulaToken
  part_at [] = None
  part_at (t ∷ ts) = part_by t.kind ts

  abbrev pub parts_of : List Token → Option (List FormulaToken)
  parts_of ts = parts_in part_at ts

  abbrev pub value_of : List Token → Option Value
  value_of ts = parts_of ts >>= value_in bracket_limit operator_limit

  abbrev pub form_of : List Token → Option FormTree
  form_of ts = value_of ts >>= form_in

  abbrev pub sum_of : List Token → Option TermTree
  sum_of ts = value_of ts >>= term_in

  -- ---- facts

  -- behind the name of a `forall`
  unfoldable pub every_of : Bytes → List Token → Option Quantified
  every_of x ts =
      word_at (codes "in") ts >>= λ us. cut closing.Range us >>= λ first. sum_of first.0 >>= λ lo.
      cut closing.Colon first.1 >>= λ last. sum_of last.0 >>= λ hi. form_of last.1 >>= λ f. Some (every x lo hi f)

  abbrev pub plain_of : List Token → Option Quantified
  plain_of ts = form_of ts >>= λ f. Some (plain_fact f)

  abbrev pub fact_by : List Token → Option Bytes → Option Quantified
  fact_by ts None = plain_of ts
  fact_by ts (Some x) = every_of x (drop 2 ts)

  abbrev pub fact_of : List Token → Option Quantified
  fact_of ts = fact_by ts (quantified_name ts)

  -- ---- clauses

  -- up to a `;`
  abbrev pub fact_at : Step Token Quantified
  fact_at ts = cut closing.Semicolon ts >>= λ x. fact_of x.0 >>= λ q. Some (q, x.1)

  abbrev pub fact_clause : (Quantified → ClauseKind) → ℕ → Step Token Statement
  fact_clause kind_of line ts = fact_at ts >>= λ x. Some (said line x.1 (kind_of x.0))

  unfoldable pub statement_by : ℕ → Bytes → Step Token Statement
  statement_by line word ts =
      if bytes_eq word (codes "both") then begins head.Both line ts else
      (if bytes_eq word (codes "at") then begins head.At line ts else
      (if bytes_eq word (codes "loop") then loop_begins line ts else
      (if bytes_eq word (codes "requires") then fact_clause clause.Requires line ts else
      (if bytes_eq word (codes "ensures") then fact_clause clause.Ensures line ts else
      (if bytes_eq word (codes "invariant") then fact_clause clause.Invariant line ts else
      (if bytes_eq word (codes "assigns") then assigns_clause line ts else None))))))

  abbrev pub statement_of : ℕ → List Token → Option Bytes → Option (Statement × List Token)
  statement_of line ts None = None
  statement_of line ts (Some word) = statement_by line word ts

  abbrev pub statement_at : Step Token Statement
  statement_at [] = None
  statement_at (t ∷ ts) = statement_of t.line ts (name_in t.kind)

  -- ---- items

  abbrev pub items_of : List Token → Option (List Item)
  items_of ts = parts_in statement_at ts >>= grouped

  abbrev pub hints_of : List Token → Option (List Item)
  hints_of ts = items_of ts >>= kept_by ts

  abbrev pub hints_in : Bytes → Option (List Item)
  hints_in text = tokens_in text >>= hints_of
