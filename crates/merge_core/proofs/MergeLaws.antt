-- What is known of the program that a world is merged into.
use Rattle.std.specs.Prelude.{◌≡◌}
use Rattle.std.proofs.Common.{sym, ap}
use Rattle.c_lang.specs.declared.unit.Unit.TheVariants.{Merge}
use Rattle.c_lang.specs.declared.program.Program.{Program}
use Rattle.c_types.specs.Kept.{TypedProgram, IsKept}
use Rattle.c_types.specs.Plain.{plain}
use Rattle.c_types.specs.Programs.{resolved_program}
use Rattle.c_types.specs.Types.{Types}
use Rattle.merge_printer.specs.Checked.{IsCheckedMerge}
use Rattle.update_semantics.specs.Worlds.{World, IsWorld, world_of}
use Rattle.merged_program.specs.Programs.{merged_program}
use Rattle.merged_texts.proofs.Fits.{world_prints}
use Rattle.merged_types.proofs.WorldTyped.{world_typed}

abbrev pub merged_kept : World → TypedProgram
merged_kept w = record { unit = Merge; program = merged_program (world_of w) }

module _ (w : World) (h : IsWorld w) where
  abbrev source : Program
  source = plain (merged_program (world_of w))

  typed_back : Types Merge source × (resolved_program source ≡ merged_program (world_of w))
  typed_back = world_typed w h

  pub kept : IsKept (merged_kept w)
  kept = record { source = source; written = (world_prints w h).written; typed = typed_back.0; resolved = sym typed_back.1 }

  pub checked : IsCheckedMerge (merged_kept w)
  checked = record {
    source = source;
    typed = typed_back.0;
    resolved = ap (λ (P : Program). record { unit = Merge; program = P }) (sym typed_back.1);
    printable = world_prints w h;
  }

pub same_typed : (t : TypedProgram) (P : Program) → t.unit ≡ Merge → t.program ≡ P → t ≡ record { unit = Merge; program = P }
same_typed t P is_unit is_program = λ i. record { unit = is_unit i; program = is_program i }
