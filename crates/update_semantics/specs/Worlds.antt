-- What contracts see of a `World`, and how its parts were made.
use Rattle.std.specs.Prelude.{⊤, ◌≡◌, ℕ, List, Option, Some, None, Ok}
use Rattle.std.specs.Option.{option_map}
use Rattle.c_lang.specs.declared.program.Program.{Program}
use Rattle.c_lang.specs.declared.unit.Unit.TheVariants.{Old, New}
use Rattle.c_types.specs.Kept.{TypedProgram, IsKept}
use Rattle.version_names.specs.Parts.{IsLinked}
use Rattle.version_names.specs.declared.links.Links.{Links}
use Rattle.state_xform.specs.Kept.{IsTransformerOf}
use Rattle.client_specs.specs.Kept.{ClientProgram, IsClientOf}
use Rattle.update_points.specs.Points.{all_points, is_listed, IsListed}
use Rattle.update_points.specs.declared.points.Points.{Points}
use Rattle.update_semantics.specs.UpdatingRun as run

-- two versions, the transformer, the client, where there is one, how the versions' names are linked, and
-- the points at which an update may happen
pub record World : Type 0 where
  pub old_prog : TypedProgram
  pub new_prog : TypedProgram
  pub xform : Program
  pub client : Option ClientProgram
  pub links : Links
  pub points : Points

abbrev pub program_of_client : Option ClientProgram → Option Program
program_of_client client = option_map (λ (c : ClientProgram). c.program) client

-- there is no client, or it is one of these two programs
abbrev pub IsOptionalClient : Program → Program → Option ClientProgram → Type 0
IsOptionalClient first second None = ⊤
IsOptionalClient first second (Some c) = IsClientOf first second c

-- Each version is the resolved form of a program that was typed in its own unit, and written in it
-- within the height of sources. All else was made of these two versions.
pub record IsWorld (w : World) : Type 0 where
  pub old_unit : w.old_prog.unit ≡ Old
  pub old_kept : IsKept w.old_prog
  pub new_unit : w.new_prog.unit ≡ New
  pub new_kept : IsKept w.new_prog
  pub linked : IsLinked w.old_prog.program w.new_prog.program w.links
  pub transformer : IsTransformerOf w.old_prog.program w.new_prog.program w.xform
  pub client : IsOptionalClient w.old_prog.program w.new_prog.program w.client
  -- the list of points that was given, if one was
  pub listed : Option (List ℕ)
  pub permitted : IsListed (all_points w.old_prog.program (program_of_client w.client)) listed (Ok w.points)

-- the world whose updating runs are meant
abbrev pub world_of : World → run.World
world_of w = record {
  first = w.old_prog.program;
  second = w.new_prog.program;
  xform = w.xform;
  client = w.client;
  permits = λ k. is_listed k w.points.numbers;
}
