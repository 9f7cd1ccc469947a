-- What an update takes beside the versions, and the client as it is written and as it is kept.
use Rattle.std.proofs.Common.{◌≡◌, ◌++◌, ℕ, List, Option, Some, None, Ok, Err, refl, sym, ap, ◌∙◌, subst}
use Rattle.c_lang.specs.Names.{Bytes}
use Rattle.c_lang.specs.declared.program.Program.{Program}
use Rattle.c_lang.specs.declared.refusal.Fail.{Fail}
use Rattle.c_lang.specs.declared.unit.Unit.TheVariants.{Old, New, Xform, Client}
use Rattle.c_grammar.specs.Written.{IsWritten}
use Rattle.c_types.specs.Kept.{TypedProgram, IsKept}
use Rattle.version_names.specs.Parts.{part_of}
use Rattle.update_points.specs.Points.{all_points, points_of, IsListed}
use Rattle.update_points.specs.declared.gathering.PointAt.{PointAt}
use Rattle.client_specs.specs.Clients.{IsClient}
use Rattle.client_specs.specs.Kept.{ClientProgram, IsChecked}
use Rattle.client_specs.specs.Refusals.{resolved_client}
use Rattle.update_semantics.specs.Worlds.{World, IsWorld, IsOptionalClient, program_of_client, world_of}
use Rattle.front_end.specs.Conditions.{AllHold, IsRefusedBy}
use Rattle.front_end.specs.Worlds.{ClientText, Texts, of_client, within_limit, has_client, AreVersions, ParsesXform, ParsesOptionalClient, IsOptionalClientOf, IsWorldOf}
use Rattle.front_end.specs.Code.Stages.{IsOptionalSource, IsOptionalWritten, IsOptionalChecked, AreParts, source_program}
use Rattle.front_end.specs.declared.worlds.ClientSource.{ClientSource}
use Rattle.front_end.specs.declared.worlds.Parts.{Parts}
use Rattle.front_end.proofs.PointLemmas.{same_points}
use Rattle.front_end.proofs.WorldLemmas.{written, client_refused}

pub source_parses : (c : Option ClientText) (source : Option ClientSource) → IsOptionalSource c source → ParsesOptionalClient c (source_program source)
source_parses None None h = tt
source_parses None (Some source) h = absurd h
source_parses (Some c) None h = absurd h
source_parses (Some c) (Some source) h = h.0

pub source_written : (c : Option ClientText) (source : Option ClientSource) → AllHold (of_client (λ c. within_limit Client c.text) c) → IsOptionalSource c source
    → IsOptionalWritten source
source_written None None small h = tt
source_written None (Some source) small h = absurd h
source_written (Some c) None small h = absurd h
source_written (Some c) (Some source) small h = written Client c.text source.program small.0 h.0

module _ (first second : Program) where
  abbrev resolved : Program → Bytes → Program
  resolved source spec = resolved_client (part_of first second) first second source spec

  -- what a check gives is the client of the text
  pub client_of_text : (c : Option ClientText) (source : Option ClientSource) (kept : Option ClientProgram) → IsOptionalSource c source
      → IsOptionalChecked first second source (Ok kept) → IsOptionalClientOf first second c (source_program source) kept
  client_of_text None None None is h = tt
  client_of_text None None (Some kept) is h = absurd h
  client_of_text None (Some source) kept is h = absurd is
  client_of_text (Some c) None kept is h = absurd is
  client_of_text (Some c) (Some source) None is h = absurd h
  client_of_text (Some c) (Some source) (Some kept) is h =
      let spec_is : kept.spec ≡ c.spec = h.0 ∙ is.1 in
      let program_is : kept.program ≡ resolved source.program c.spec = h.2 ∙ ap (resolved source.program) is.1 in
      (subst (λ (x : Bytes). IsClient first second x source.program) is.1 h.1, λ i. record { spec = spec_is i; program = program_is i })

  -- and a client of the two versions
  pub client_is : (source : Option ClientSource) (kept : Option ClientProgram) → IsOptionalWritten source → IsOptionalChecked first second source (Ok kept)
      → IsOptionalClient first second kept
  client_is None None is h = tt
  client_is None (Some kept) is h = absurd h
  client_is (Some source) None is h = absurd h
  client_is (Some source) (Some kept) is h = record {
    source = source.program;
    written = is;
    client = subst (λ (x : Bytes). IsClient first second x source.program) (sym h.0) h.1;
    resolved = h.2 ∙ ap (resolved source.program) (sym h.0);
  }

  -- the points are those of the client as it is written
  pub points_are : (source : Option ClientSource) (kept : Option ClientProgram) → IsOptionalChecked first second source (Ok kept)
      → all_points first (source_program source) ≡ all_points first (program_of_client kept)
  points_are None None h = refl
  points_are None (Some kept) h = absurd h
  points_are (Some source) None h = absurd h
  points_are (Some source) (Some kept) h =
      ap (λ (ps : List PointAt). points_of first ++ ps) (sym (ap points_of h.2 ∙ same_points first second source.program source.spec h.1))

-- the client's check refuses what its condition refuses
pub client_refuses : (listed : Option (List ℕ)) (ts : Texts) (first second : Program) (c : Option ClientText) (source : Option ClientSource) (f : Fail) → AreVersions ts first second
    → IsOptionalSource c source → IsOptionalChecked first second source (Err f) → IsRefusedBy (of_client (has_client ts) c) f
client_refuses listed ts first second c None f are is h = absurd h
client_refuses listed ts first second None (Some source) f are is h = absurd is
client_refuses listed ts first second (Some c) (Some source) f are is h =
    client_refused listed ts c first second source.program f are is.0
    (subst (λ (x : Bytes). IsChecked first second x source.program (Err f)) is.1 h)

-- ---- worlds

module _ (listed : Option (List ℕ)) (old new : TypedProgram) (xform : Program) (source : Option ClientSource) (parts : Parts)
    (are : AreParts listed old.program new.program xform source parts) where
  abbrev pub world_with : World
  world_with = record { old_prog = old; new_prog = new; xform = parts.xform; client = parts.client; links = parts.links; points = parts.points }

  pub parts_are_world : old.unit ≡ Old → IsKept old → new.unit ≡ New → IsKept new → IsWritten Xform xform → IsOptionalWritten source → IsWorld world_with
  parts_are_world old_unit old_kept new_unit new_kept xform_written source_is = record {
    old_unit = old_unit;
    old_kept = old_kept;
    new_unit = new_unit;
    new_kept = new_kept;
    linked = are.links;
    transformer = record { source = xform; written = xform_written; transformer = are.xform.0; resolved = are.xform.1 };
    client = client_is old.program new.program source parts.client source_is are.client;
    listed = listed;
    permitted = subst (λ (ps : List PointAt). IsListed ps listed (Ok parts.points)) (points_are old.program new.program source parts.client are.client) are.points;
  }

  pub parts_of_texts : (ts : Texts) → AreVersions ts old.program new.program → ParsesXform ts xform → IsOptionalSource ts.client source
      → IsWorldOf listed ts (world_of world_with)
  parts_of_texts ts versions parses is = record {
    versions = versions;
    source = xform;
    parses = parses;
    transformer = are.xform.0;
    resolved = are.xform.1;
    client_source = source_program source;
    client_parses = source_parses ts.client source is;
    client = client_of_text old.program new.program ts.client source parts.client is are.client;
    told_apart = are.points.0;
    points = are.points.1;
  }
