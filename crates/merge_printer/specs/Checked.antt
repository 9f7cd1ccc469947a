-- Typed programs whose printed text is read back and checked as the same typed program.
use Rattle.std.specs.Prelude.{◌≡◌}
use Rattle.c_lang.specs.Names.{Bytes}
use Rattle.c_lang.specs.Limits.{height_limit}
use Rattle.c_lang.specs.declared.unit.Unit.TheVariants.{Merge}
use Rattle.c_lang.specs.declared.program.Program.{Program}
use Rattle.c_grammar.specs.Written.{Parses}
use Rattle.c_types.specs.Kept.{TypedProgram}
use Rattle.c_types.specs.Types.{Types}
use Rattle.c_types.specs.Programs.{resolved_program}
use Rattle.merge_printer.specs.Printable.{IsPrintable}

-- it is what a check of a printable program as unit Merge gives
pub record IsCheckedMerge (kept : TypedProgram) : Type 0 where
  pub source : Program
  pub typed : Types Merge source
  pub resolved : kept ≡ record { unit = Merge; program = resolved_program source }
  pub printable : IsPrintable source

-- the text is a program whose check as unit Merge gives this one
pub record ChecksAs (text : Bytes) (kept : TypedProgram) : Type 0 where
  pub program : Program
  pub parses : Parses Merge (height_limit Merge) text program
  pub typed : Types Merge program
  pub resolved : kept ≡ record { unit = Merge; program = resolved_program program }
