-- Which hints a text says of a program, and why a text is refused.
use Rattle.std.specs.Prelude.{⊤, ◌≡◌, ℕ, ◌<◌, ◌≤◌, List, length, Some, None, Result, Ok, Err}
use Rattle.c_lang.specs.Names.{Bytes}
use Rattle.c_lang.specs.Limits.{size_limit}
use Rattle.c_lang.specs.Refusals.{refused_at, bad_hints, unlisted_cell, past_limit}
use Rattle.c_lang.specs.declared.program.Program.{Program}
use Rattle.c_lang.specs.declared.unit.Unit.TheVariants as unit
use Rattle.c_lang.specs.declared.unit.Pos.{Pos}
use Rattle.c_lang.specs.declared.refusal.Refusal.{Refusal}
use Rattle.c_lang.specs.declared.refusal.Fail.{Fail}
use Rattle.c_lang.specs.declared.refusal.Fail.TheVariants.{NoMemory, Refused}
use Rattle.hint_texts.specs.declared.hints.Item.{Item}
use Rattle.hint_texts.specs.Texts.{IsHintsText, on_line}
use Rattle.loop_invariants.specs.Hints.{Hints}
use Rattle.loop_invariants.specs.Assigned.{lacking}
use Rattle.hint_reading.specs.Meaning.{hints_of}
use Rattle.hint_reading.specs.Demands.{demands, first_unmet}

-- The text is items of which all that is asked is so; the hints are what these say, and no contract lists too few cells.
pub record AreHints (p : Program) (text : Bytes) (hints : Hints) : Type 0 where
  pub items : List Item
  pub read : IsHintsText p text items
  pub met : first_unmet (demands p items) ≡ None
  pub said : hints ≡ hints_of p items
  pub cells : lacking p hints ≡ None

abbrev pub IsShort : Bytes → Type 0
IsShort text = length text ≤ size_limit unit.Hints

-- Why a text is refused: it is too long; or it is no list of items, or something that is asked of the items isn't so,
-- first on this line; or else the contract of the function at this position, and of none before it, lists too few cells.
pub data Refuses (p : Program) (text : Bytes) : Refusal → Type 0 where
  long : size_limit unit.Hints < length text → Refuses p text (refused_at past_limit (on_line 1))
  unread : IsShort text → ((items : List Item) → IsHintsText p text items → ⊥) → (line : ℕ) → Refuses p text (refused_at bad_hints (on_line line))
  unmet : IsShort text → (items : List Item) → IsHintsText p text items → (line : ℕ) → first_unmet (demands p items) ≡ Some line
      → Refuses p text (refused_at bad_hints (on_line line))
  lacks : IsShort text → (items : List Item) → IsHintsText p text items → first_unmet (demands p items) ≡ None
      → (at : Pos) → lacking p (hints_of p items) ≡ Some at → Refuses p text (refused_at unlisted_cell at)

-- what reading a text answers
abbrev pub IsAnswer : Program → Bytes → Result Hints Fail → Type 0
IsAnswer p text (Ok hints) = IsShort text × AreHints p text hints
IsAnswer p text (Err NoMemory) = ⊤
IsAnswer p text (Err (Refused why)) = Refuses p text why
