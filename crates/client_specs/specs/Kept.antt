-- What contracts see of a client, what it keeps, and what a check answers.
use Rattle.std.specs.Prelude.{⊤, ◌≡◌, Some, Result, Ok, Err}
use Rattle.c_lang.specs.Names.{Bytes}
use Rattle.c_lang.specs.declared.refusal.Fail.{Fail}
use Rattle.c_lang.specs.declared.refusal.Fail.TheVariants.{NoMemory, Refused}
use Rattle.c_lang.specs.declared.program.Program.{Program}
use Rattle.c_lang.specs.declared.unit.Unit.TheVariants.{Client}
use Rattle.c_grammar.specs.Written.{IsWritten}
use Rattle.version_names.specs.Parts.{part_of}
use Rattle.client_specs.specs.Refusals.{first_refusal, resolved_client}
use Rattle.client_specs.specs.Clients.{IsClient}

-- the name of the function with which a run begins, and the program in its resolved form
pub record ClientProgram : Type 0 where
  pub spec : Bytes
  pub program : Program

-- it is the resolved form of a client of these two programs, which is written in unit Client
pub record IsClientOf (first second : Program) (kept : ClientProgram) : Type 0 where
  pub source : Program
  pub written : IsWritten Client source
  pub client : IsClient first second kept.spec source
  pub resolved : kept.program ≡ resolved_client (part_of first second) first second source kept.spec

-- and of some two programs
pub record IsKept (kept : ClientProgram) : Type 0 where
  pub first : Program
  pub second : Program
  pub made : IsClientOf first second kept

-- a client in its resolved form, or the first refusal of a program that is none
abbrev pub IsChecked : Program → Program → Bytes → Program → Result ClientProgram Fail → Type 0
IsChecked first second spec p (Ok c) =
    (c.spec ≡ spec) × IsClient first second spec p × (c.program ≡ resolved_client (part_of first second) first second p spec)
IsChecked first second spec p (Err NoMemory) = ⊤
IsChecked first second spec p (Err (Refused r)) =
    (IsClient first second spec p → ⊥) × (first_refusal (part_of first second) first second p spec ≡ Some r)
