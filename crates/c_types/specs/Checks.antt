-- The first refusal, and what a check answers.
use Rattle.std.specs.Prelude.{⊤, ◌≡◌, ℕ, Option, Some, None, Result, Ok, Err}
use Rattle.c_lang.specs.declared.unit.Pos.{Pos}
use Rattle.c_lang.specs.declared.refusal.Refusal.{Refusal}
use Rattle.c_lang.specs.declared.refusal.Fail.{Fail}
use Rattle.c_lang.specs.declared.refusal.Fail.TheVariants.{NoMemory, Refused}

-- the number refuses a statement or declaration at this place
abbrev pub at_place : Option ℕ → Pos → Option Refusal
at_place None p = None
at_place (Some n) p = Some (record { number = n; pos = p; name = None })

-- the first of two refusals
abbrev pub first : Option Refusal → Option Refusal → Option Refusal
first (Some r) o = Some r
first None o = o

-- the whole where nothing is refused, else the first refusal
abbrev pub Checked : {T : Type 0} → Result T Fail → Option Refusal → T → Type 0
Checked (Ok t) refused whole = (refused ≡ None) × (t ≡ whole)
Checked (Err NoMemory) refused whole = ⊤
Checked (Err (Refused r)) refused whole = refused ≡ Some r

-- the refusal, where there is one
abbrev pub Stops : Result (Unit {0}) Fail → Option Refusal → Type 0
Stops (Ok t) refused = refused ≡ None
Stops (Err NoMemory) refused = ⊥
Stops (Err (Refused r)) refused = refused ≡ Some r
