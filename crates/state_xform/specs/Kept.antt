-- What a check of a transformer answers, and what a transformer keeps.
use Rattle.std.specs.Prelude.{⊤, ◌≡◌, Some, Result, Ok, Err}
use Rattle.c_lang.specs.declared.refusal.Fail.{Fail}
use Rattle.c_lang.specs.declared.refusal.Fail.TheVariants.{NoMemory, Refused}
use Rattle.c_lang.specs.declared.program.Program.{Program}
use Rattle.c_lang.specs.declared.unit.Unit.TheVariants.{Xform}
use Rattle.c_grammar.specs.Written.{IsWritten}
use Rattle.version_names.specs.Parts.{part_of}
use Rattle.state_xform.specs.Refusals.{first_refusal, resolved_transformer}
use Rattle.state_xform.specs.Transformers.{IsTransformer}

-- a transformer in its resolved form, or the first refusal of a program that is none
abbrev pub IsChecked : Program → Program → Program → Result Program Fail → Type 0
IsChecked first second p (Ok x) = IsTransformer first second p × (x ≡ resolved_transformer (part_of first second) first second p)
IsChecked first second p (Err NoMemory) = ⊤
IsChecked first second p (Err (Refused r)) = (IsTransformer first second p → ⊥) × (first_refusal (part_of first second) first second p ≡ Some r)

-- it is the resolved form of a transformer of these two programs, which is written in unit Xform
pub record IsTransformerOf (first second kept : Program) : Type 0 where
  pub source : Program
  pub written : IsWritten Xform source
  pub transformer : IsTransformer first second source
  pub resolved : kept ≡ resolved_transformer (part_of first second) first second source

-- and of some two programs
pub record IsKept (kept : Program) : Type 0 where
  pub first : Program
  pub second : Program
  pub made : IsTransformerOf first second kept
