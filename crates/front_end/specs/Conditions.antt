-- Conditions in their order, each with the refusals of what doesn't meet it.
use Rattle.std.specs.Prelude.{⊤, ◌≡◌, ℕ, Result, MatchResult, List, [], ◌∷◌, ◌⊎◌}
use Rattle.c_lang.specs.Refusals.{refused_at}
use Rattle.c_lang.specs.Units.{at}
use Rattle.c_lang.specs.declared.unit.Unit.{Unit}
use Rattle.c_lang.specs.declared.refusal.Refusal.{Refusal}
use Rattle.c_lang.specs.declared.refusal.Fail.{Fail}
use Rattle.c_lang.specs.declared.refusal.Fail.TheVariants as fail

-- a refusal at the first line of a unit
abbrev pub refusal_at : ℕ → Unit → Refusal
refusal_at number unit = refused_at number (at unit 1)

-- what an input must meet, and what refuses one that doesn't
pub record Condition : Type 1 where
  pub Holds : Type 0
  pub Refuses : Refusal → Type 0

-- a condition with one refusal
abbrev pub or_refused : Refusal → Type 0 → Condition
or_refused refusal Met = record { Holds = Met; Refuses = λ r. r ≡ refusal }

abbrev pub AllHold : List Condition → Type 0
AllHold [] = ⊤
AllHold (condition ∷ conditions) = condition.Holds × AllHold conditions

-- It is the refusal of the first condition that doesn't hold.
abbrev pub IsFirstRefusal : List Condition → Refusal → Type 0
IsFirstRefusal [] refusal = ⊥
IsFirstRefusal (condition ∷ conditions) refusal =
    ((condition.Holds → ⊥) × condition.Refuses refusal) ⊎ (condition.Holds × IsFirstRefusal conditions refusal)

-- All hold, or the answer is that refusal.
abbrev pub Checks : List Condition → Result ⊤ Refusal → Type 0
Checks conditions result = MatchResult result (λ _. AllHold conditions) (IsFirstRefusal conditions)

-- Want of memory, or that refusal.
abbrev pub IsRefusedBy : List Condition → Fail → Type 0
IsRefusedBy conditions fail.NoMemory = ⊤
IsRefusedBy conditions (fail.Refused refusal) = IsFirstRefusal conditions refusal
