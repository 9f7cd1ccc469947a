-- Conditions in two groups, one after the other.
use Rattle.std.proofs.Common.{inl, inr, List, [], ◌∷◌, ◌++◌}
use Rattle.c_lang.specs.declared.refusal.Refusal.{Refusal}
use Rattle.c_lang.specs.declared.refusal.Fail.{Fail}
use Rattle.c_lang.specs.declared.refusal.Fail.TheVariants as fail
use Rattle.front_end.specs.Conditions.{Condition, AllHold, IsFirstRefusal, IsRefusedBy}

pub all-append : (first rest : List Condition) → AllHold first → AllHold rest → AllHold (first ++ rest)
all-append [] rest here there = there
all-append (condition ∷ first) rest here there = (here.0, all-append first rest here.1 there)

pub refused-here : (first rest : List Condition) (refusal : Refusal) → IsFirstRefusal first refusal → IsFirstRefusal (first ++ rest) refusal
refused-here [] rest refusal is = absurd is
refused-here (condition ∷ first) rest refusal is = elim is [
  | inl fails ↦ inl fails
  | inr later ↦ inr (later.0, refused-here first rest refusal later.1)
]

pub refused-behind : (first rest : List Condition) (refusal : Refusal) → AllHold first → IsFirstRefusal rest refusal → IsFirstRefusal (first ++ rest) refusal
refused-behind [] rest refusal here is = is
refused-behind (condition ∷ first) rest refusal here is = inr (here.0, refused-behind first rest refusal here.1 is)

pub all-first : (first rest : List Condition) → AllHold (first ++ rest) → AllHold first
all-first [] rest all = tt
all-first (condition ∷ first) rest all = (all.0, all-first first rest all.1)

-- where all conditions hold, none is the first that doesn't
pub no-refusal : (conditions : List Condition) (refusal : Refusal) → AllHold conditions → IsFirstRefusal conditions refusal → ⊥
no-refusal [] refusal hold first = first
no-refusal (condition ∷ conditions) refusal hold first = elim first [
  | inl fails ↦ fails.0 hold.0
  | inr later ↦ no-refusal conditions refusal hold.1 later.1
]

-- the same for want of memory and refusals
pub fails-here : (first rest : List Condition) (f : Fail) → IsRefusedBy first f → IsRefusedBy (first ++ rest) f
fails-here first rest fail.NoMemory is = tt
fails-here first rest (fail.Refused refusal) is = refused-here first rest refusal is

pub fails-behind : (first rest : List Condition) (f : Fail) → AllHold first → IsRefusedBy rest f → IsRefusedBy (first ++ rest) f
fails-behind first rest fail.NoMemory here is = tt
fails-behind first rest (fail.Refused refusal) here is = refused-behind first rest refusal here is
