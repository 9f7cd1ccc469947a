-- How high the parts of a world are, and their positions.
use Rattle.std.specs.Prelude.{◌≡◌, ◌≤◌, List, map, All, Option, Some, None}
use Rattle.std.proofs.Common.{refl, sym, ap, ◌∙◌, subst, arith}
use Rattle.std.proofs.lemmas.List.Elements.{All-nil}
use Rattle.c_lang.specs.Limits.{height_limit}
use Rattle.c_lang.specs.Positions.{FuncHasPositions, ProgramHasPositions}
use Rattle.c_lang.specs.declared.unit.Unit.{Unit}
use Rattle.c_lang.specs.declared.unit.Unit.TheVariants.{Old, New, Xform, Client, Merge, Hints, Certs}
use Rattle.c_lang.specs.declared.program.Func.{Func}
use Rattle.c_lang.specs.declared.program.Program.{Program}
use Rattle.c_grammar.specs.Written.{IsWritten}
use Rattle.c_types.specs.Kept.{TypedProgram, IsKept}
use Rattle.c_types.specs.Plain.{plain, plain_program}
use Rattle.c_types.specs.Programs.{resolved_program}
use Rattle.c_types.proofs.PlainLaws.{plain_resolved_program}
use Rattle.version_names.specs.Parts.{Parts, part_of}
use Rattle.state_xform.specs.Kept.{IsTransformerOf}
use Rattle.state_xform.specs.Refusals.{resolved_transformer}
use Rattle.client_specs.specs.Kept.{ClientProgram, IsClientOf}
use Rattle.client_specs.specs.Spelled.{spelled_func}
use Rattle.update_semantics.specs.UpdatingRun.{funcs_of_client}
use Rattle.update_semantics.specs.Worlds.{World, IsOptionalClient, IsWorld, world_of}
use Rattle.merged_program.specs.Programs.{merged_program}
use Rattle.merge_printer.specs.Heights.{funcs_height}
use Rattle.merge_printer.proofs.HeightLaw.{same_heights}
use Rattle.written_laws.specs.Sources.{IsSource}
use Rattle.written_laws.proofs.PlainPositions.{same_positions}
use Rattle.written_laws.proofs.WrittenPositions.{written_positions}
use Rattle.merged_texts.proofs.PlainForms.{plain_positions}
use Rattle.merged_texts.proofs.TransformerForms.{plain_transformer}
use Rattle.merged_texts.proofs.ClientForms.{unspelled, client_spelled, plain_client}
use Rattle.merged_texts.proofs.SpelledForms.{spelled_positions, spelled_heights}
use Rattle.merged_texts.proofs.WrittenHeights.{written_low}
use Rattle.merged_texts.proofs.MergedHeights.{AreLow, merged_low}
use Rattle.merged_texts.proofs.MergedPositions.{PartsHavePositions, merged_positions}

source_limit : (u : Unit) → IsSource u → height_limit u ≡ 64
source_limit Old h = refl
source_limit New h = refl
source_limit Xform h = refl
source_limit Client h = refl
source_limit Merge h = absurd h
source_limit Hints h = absurd h
source_limit Certs h = absurd h

-- ---- one part

module _ (u : Unit) (source : IsSource u) (r p : Program) (same : plain_program r ≡ plain_program p) (written : IsWritten u p) where
  part_low : funcs_height r.funcs ≤ 64
  part_low =
      let low = written_low u (height_limit u) written.tokens p written.gram in
      omega (arith, low, source_limit u source, same_heights r p same)

  part_at : ProgramHasPositions r
  part_at = same_positions r p same (written_positions u p source written)

module _ (kept : TypedProgram) (source : IsSource kept.unit) (h : IsKept kept) where
  same : plain_program (resolved_program h.source) ≡ plain_program h.source
  same = plain_resolved_program kept.unit h.source h.typed

  kept_low : funcs_height kept.program.funcs ≤ 64
  kept_low = subst (λ (P : Program). funcs_height P.funcs ≤ 64) (sym h.resolved) (part_low kept.unit source (resolved_program h.source) h.source same h.written)

  kept_at : ProgramHasPositions kept.program
  kept_at = subst ProgramHasPositions (sym h.resolved) (part_at kept.unit source (resolved_program h.source) h.source same h.written)

module _ (first second kept : Program) (h : IsTransformerOf first second kept) where
  same_xform : plain_program (resolved_transformer (part_of first second) first second h.source) ≡ plain_program h.source
  same_xform = plain_transformer first second h.source h.transformer

  xform_low : funcs_height kept.funcs ≤ 64
  xform_low = subst (λ (P : Program). funcs_height P.funcs ≤ 64) (sym h.resolved) (part_low Xform tt (resolved_transformer (part_of first second) first second h.source) h.source same_xform h.written)

  pub xform_at : ProgramHasPositions kept
  xform_at = subst ProgramHasPositions (sym h.resolved) (part_at Xform tt (resolved_transformer (part_of first second) first second h.source) h.source same_xform h.written)

module _ (first second : Program) (kept : ClientProgram) (h : IsClientOf first second kept) where
  abbrev parts : Parts
  parts = part_of first second

  abbrev before_names : Program
  before_names = unspelled parts first second h.source kept.spec

  same_client : plain_program before_names ≡ plain_program h.source
  same_client = plain_client parts first second h.source kept.spec h.client.funcs

  spelled_funcs : kept.program.funcs ≡ map (spelled_func parts) before_names.funcs
  spelled_funcs = ap (λ (P : Program). P.funcs) h.resolved ∙ client_spelled parts first second h.source kept.spec

  client_low : funcs_height kept.program.funcs ≤ 64
  client_low =
      let low = part_low Client tt before_names h.source same_client h.written in
      subst (λ (fs : List Func). funcs_height fs ≤ 64) (sym spelled_funcs) (omega (arith, low, spelled_heights parts before_names.funcs))

  client_at : All FuncHasPositions kept.program.funcs
  client_at =
      let at = part_at Client tt before_names h.source same_client h.written in
      subst (λ (fs : List Func). All FuncHasPositions fs) (sym spelled_funcs) (spelled_positions parts before_names.funcs at.funcs)

optional_low : (first second : Program) (c : Option ClientProgram) → IsOptionalClient first second c → funcs_height (funcs_of_client c) ≤ 64
optional_low first second None h = omega arith
optional_low first second (Some c) h = client_low first second c h

optional_at : (first second : Program) (c : Option ClientProgram) → IsOptionalClient first second c → All FuncHasPositions (funcs_of_client c)
optional_at first second None h = All-nil FuncHasPositions
optional_at first second (Some c) h = client_at first second c h

-- ---- all parts

module _ (w : World) (h : IsWorld w) where
  pub old_source : IsSource w.old_prog.unit
  old_source = subst IsSource (sym h.old_unit) tt

  pub new_source : IsSource w.new_prog.unit
  new_source = subst IsSource (sym h.new_unit) tt

  parts_low : AreLow (world_of w) 64
  parts_low = record {
    first = kept_low w.old_prog old_source h.old_kept;
    second = kept_low w.new_prog new_source h.new_kept;
    xform = xform_low w.old_prog.program w.new_prog.program w.xform h.transformer;
    client = optional_low w.old_prog.program w.new_prog.program w.client h.client;
  }

  parts_at : PartsHavePositions (world_of w)
  parts_at = record {
    first = kept_at w.old_prog old_source h.old_kept;
    second = kept_at w.new_prog new_source h.new_kept;
    xform = xform_at w.old_prog.program w.new_prog.program w.xform h.transformer;
    client = optional_at w.old_prog.program w.new_prog.program w.client h.client;
  }

  pub world_low : funcs_height (plain (merged_program (world_of w))).funcs ≤ 68
  world_low = merged_low (world_of w) 64 parts_low

  pub world_positions : ProgramHasPositions (plain (merged_program (world_of w)))
  world_positions = plain_positions (merged_program (world_of w)) (merged_positions (world_of w) parts_at)
