-- Which text is which list of items.
use Rattle.std.specs.Prelude.{⊤, ◌≡◌, ◌⊎◌, ℕ, ◌+◌, ◌-◌, ◌<◌, ◌≤◌, nat_le, Bool, true, false, not, ◌&&◌, if◌then◌else◌, List, [], ◌∷◌, length, map, flat_map, Result, Ok, Err}
use Rattle.std.specs.List.{list_all}
use Rattle.c_lang.specs.Names.{Bytes}
use Rattle.c_lang.specs.Limits.{size_limit}
use Rattle.c_lang.specs.Refusals.{refused_at, bad_hints, past_limit}
use Rattle.c_lang.specs.declared.program.Program.{Program}
use Rattle.c_lang.specs.declared.unit.Unit.TheVariants.{Hints}
use Rattle.c_lang.specs.declared.unit.Pos.{Pos}
use Rattle.c_lang.specs.declared.refusal.Refusal.{Refusal}
use Rattle.c_lang.specs.declared.refusal.Fail.{Fail}
use Rattle.c_lang.specs.declared.refusal.Fail.TheVariants.{NoMemory, Refused}
use Rattle.name_tables.specs.Declarations.{function_number}
use Rattle.formula_texts.specs.declared.token.Token.TheVariants as token
use Rattle.formula_texts.specs.declared.token.Mark.{Mark}
use Rattle.formula_texts.specs.declared.token.Mark.TheVariants as mark
use Rattle.hint_texts.specs.declared.token.Token.{Token}
use Rattle.hint_texts.specs.declared.token.Kind.{Kind}
use Rattle.hint_texts.specs.declared.token.Kind.TheVariants as kind
use Rattle.hint_texts.specs.declared.token.Piece.{Piece}
use Rattle.hint_texts.specs.declared.hints.Head.{Head}
use Rattle.hint_texts.specs.declared.hints.Head.TheVariants as head
use Rattle.hint_texts.specs.declared.hints.Clause.{Clause}
use Rattle.hint_texts.specs.declared.hints.ClauseKind.{ClauseKind}
use Rattle.hint_texts.specs.declared.hints.ClauseKind.TheVariants as clause
use Rattle.hint_texts.specs.declared.hints.Item.{Item}
use Rattle.hint_texts.specs.declared.hints.Statement.{Statement}
use Rattle.hint_texts.specs.declared.hints.Statement.TheVariants as statement
use Rattle.hint_texts.specs.Parts.{AreParts}
use Rattle.hint_texts.specs.Tokens.{IsPiece, placed}
use Rattle.hint_texts.specs.Grammar.{bracket_limit, IsStatement}

-- ---- items

abbrev pub statements_of : Item → List Statement
statements_of item = statement.Begins item.line item.head ∷ map statement.Says item.clauses

abbrev pub is_loop : Head → Bool
is_loop (head.Loop f n) = true
is_loop _ = false

abbrev pub is_invariant : ClauseKind → Bool
is_invariant (clause.Invariant q) = true
is_invariant _ = false

abbrev pub is_assigns : ClauseKind → Bool
is_assigns (clause.Assigns xs) = true
is_assigns _ = false

-- invariants stand under loops, all other clauses under functions
abbrev pub may_say : Head → Clause → Bool
may_say h c = if is_loop h then is_invariant c.kind else not (is_invariant c.kind)

abbrev pub no_assigns : List Clause → Bool
no_assigns cs = list_all (λ c. not (is_assigns c.kind)) cs

-- at most one clause lists what is changed
abbrev pub assigns_once : List Clause → Bool
assigns_once [] = true
assigns_once (c ∷ cs) = if is_assigns c.kind then no_assigns cs else assigns_once cs

abbrev pub is_item : Item → Bool
is_item item = list_all (may_say item.head) item.clauses && assigns_once item.clauses

-- ---- open brackets

abbrev pub open_by : Mark → ℕ → ℕ
open_by mark.RoundOpen n = n + 1
open_by mark.SquareOpen n = n + 1
open_by mark.RoundClose n = n - 1
open_by mark.SquareClose n = n - 1
open_by _ n = n

-- how many brackets are open behind a token
abbrev pub open_after : Kind → ℕ → ℕ
open_after (kind.Part (token.Mark m)) n = open_by m n
open_after _ n = n

-- where n are open before them, no more brackets than the limit are open at any token
abbrev pub is_nested : ℕ → List Token → Bool
is_nested n [] = true
is_nested n (t ∷ ts) = nat_le (open_after t.kind n) bracket_limit && is_nested (open_after t.kind n) ts

-- ---- texts

-- the text is these items, for a program whose functions are numbered so
pub record AreHints (number : Bytes → ℕ) (text : Bytes) (items : List Item) : Type 0 where
  pub pieces : List Piece
  pub cut : AreParts IsPiece text pieces
  pub nested : is_nested 0 (placed 1 pieces) ≡ true
  pub statements : AreParts (IsStatement number) (placed 1 pieces) (flat_map statements_of items)
  pub allowed : list_all is_item items ≡ true

abbrev pub IsHintsText : Program → Bytes → List Item → Type 0
IsHintsText p text items = AreHints (function_number p) text items

abbrev pub on_line : ℕ → Pos
on_line line = record { unit = Hints; line = line }

-- why a text is refused: it is too long, or else it is no hints text for the program
abbrev pub Refuses : Program → Bytes → Refusal → Type 0
Refuses p text why =
    (size_limit Hints < length text) × (why ≡ refused_at past_limit (on_line 1))
    ⊎ (length text ≤ size_limit Hints) × ((items : List Item) → IsHintsText p text items → ⊥) × (line : ℕ) × (why ≡ refused_at bad_hints (on_line line))

-- what reading a text answers
abbrev pub IsAnswer : Program → Bytes → Result (List Item) Fail → Type 0
IsAnswer p text (Ok items) = (length text ≤ size_limit Hints) × IsHintsText p text items
IsAnswer p text (Err NoMemory) = ⊤
IsAnswer p text (Err (Refused why)) = Refuses p text why
