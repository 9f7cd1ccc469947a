-- What contracts see of a typed program, and what it keeps.
use Rattle.std.specs.Prelude.{⊤, ◌≡◌, Some, Result, Ok, Err}
use Rattle.c_lang.specs.declared.unit.Unit.{Unit}
use Rattle.c_lang.specs.declared.refusal.Fail.{Fail}
use Rattle.c_lang.specs.declared.refusal.Fail.TheVariants.{NoMemory, Refused}
use Rattle.c_lang.specs.declared.program.Program.{Program}
use Rattle.c_grammar.specs.Written.{IsWritten}
use Rattle.c_types.specs.Programs.{first_refusal, resolved_program}
use Rattle.c_types.specs.Types.{Types}

-- the unit that a program was checked in, and the program in its resolved form
pub record TypedProgram : Type 0 where
  pub unit : Unit
  pub program : Program

-- it is the resolved form of a program that was typed in this very unit, and written in it
pub record IsKept (kept : TypedProgram) : Type 0 where
  pub source : Program
  pub written : IsWritten kept.unit source
  pub typed : Types kept.unit source
  pub resolved : kept.program ≡ resolved_program source

-- a typed program in its resolved form, or the first refusal of one that isn't typed
abbrev pub IsChecked : Unit → Program → Result TypedProgram Fail → Type 0
IsChecked u p (Ok t) = (t.unit ≡ u) × Types u p × (t.program ≡ resolved_program p)
IsChecked u p (Err NoMemory) = ⊤
IsChecked u p (Err (Refused r)) = (Types u p → ⊥) × (first_refusal u p ≡ Some r)
