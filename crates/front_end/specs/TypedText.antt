-- Which texts are typed programs, and why the others are refused.
use Rattle.std.specs.Prelude.{⊤, ◌≡◌, Some}
use Rattle.c_lang.specs.Names.{Bytes}
use Rattle.c_lang.specs.declared.unit.Unit.{Unit}
use Rattle.c_lang.specs.declared.refusal.Refusal.{Refusal}
use Rattle.c_lang.specs.declared.refusal.Fail.{Fail}
use Rattle.c_lang.specs.declared.refusal.Fail.TheVariants as fail
use Rattle.c_lang.specs.declared.program.Program.{Program}
use Rattle.c_parser.specs.Texts as parsed
use Rattle.c_parser.specs.Texts.{IsProgramText}
use Rattle.c_types.specs.Types.{Types}
use Rattle.c_types.specs.Programs.{first_refusal, resolved_program}

-- The text is a program of its unit, which is typed, and this is the resolved form.
pub record IsTypedText (u : Unit) (text : Bytes) (program : Program) : Type 0 where
  pub source : Program
  pub is_program : IsProgramText u text source
  pub typed : Types u source
  pub resolved : program ≡ resolved_program source

-- The text is no program of its unit, or its program isn't typed; and this is the first refusal.
pub data IsRefusedText (u : Unit) (text : Bytes) : Refusal → Type 0 where
  by_text : (refusal : Refusal) → parsed.IsRefusedText u text refusal → IsRefusedText u text refusal
  by_types : (source : Program) (refusal : Refusal)
      → IsProgramText u text source → (Types u source → ⊥) → first_refusal u source ≡ Some refusal
      → IsRefusedText u text refusal

-- memory was wanted, or the text is refused
abbrev pub IsRefusedTextAs : Fail → Unit → Bytes → Type 0
IsRefusedTextAs fail.NoMemory u text = ⊤
IsRefusedTextAs (fail.Refused refusal) u text = IsRefusedText u text refusal

-- The text is this typed program, and no other.
pub record HasProgram (u : Unit) (text : Bytes) (program : Program) : Type 0 where
  pub is_typed : IsTypedText u text program
  pub only : (other : Program) → IsTypedText u text other → other ≡ program

-- The text is refused so, and is no typed program.
pub record IsRefused (u : Unit) (text : Bytes) (refusal : Refusal) : Type 0 where
  pub first : IsRefusedText u text refusal
  pub none : (program : Program) → IsTypedText u text program → ⊥
