-- What linked names stand for.
use Rattle.std.specs.Prelude.{if◌then◌else◌, Option, Some, None}
use Rattle.std.specs.Option.{option_map}
use Rattle.c_lang.specs.Names.{Bytes}
use Rattle.c_lang.specs.Programs.{global_named, func_named}
use Rattle.c_lang.specs.declared.program.Func.{Func}
use Rattle.c_lang.specs.declared.program.GlobalVar.{GlobalVar}
use Rattle.c_lang.specs.declared.program.Program.{Program}
use Rattle.version_names.specs.Home as home
use Rattle.version_names.specs.Home.{Home, same_home}
use Rattle.version_names.specs.Links.{cell_part, code_part}
use Rattle.version_names.specs.Parts.{version_of}
use Rattle.version_names.specs.Provenance as origin
use Rattle.version_names.specs.Version as version
use Rattle.version_names.specs.declared.part.Part.{Part}
use Rattle.version_names.specs.declared.part.Part.TheVariants as part
use Rattle.version_names.specs.declared.part.Sort2.{Sort2}
use Rattle.version_names.specs.declared.part.Sort2.TheVariants as sort
use Rattle.update_semantics.specs.declared.linked.Function.{Function}
use Rattle.update_semantics.specs.declared.linked.Function.TheVariants as function
use Rattle.update_semantics.specs.declared.linked.Linked.{Linked}
use Rattle.update_semantics.specs.declared.linked.Provenance.{Provenance}
use Rattle.update_semantics.specs.declared.linked.Provenance.TheVariants as p
use Rattle.update_semantics.specs.UpdatingRun.{World}
use Rattle.update_semantics.specs.Worlds as worlds
use Rattle.version_names.specs.declared.part.Version.TheVariants as v
use Rattle.version_names.specs.declared.part.Version as part_version

abbrev pub home_at : Option Part → Home
home_at None = home.Unlinked
home_at (Some part.Both) = home.Both
home_at (Some part.Old) = home.Old
home_at (Some part.New) = home.New

abbrev pub linked_at : Linked → home.Linked
linked_at l = (home_at l.part, l.name.now)

abbrev pub function_at : Function → home.Linked
function_at (function.Version l) = linked_at l
function_at (function.Xform f) = (home.Xform, f.now)
function_at (function.Client f) = (home.Client, f.now)

abbrev pub provenance_of : Provenance → origin.Provenance
provenance_of p.Old = origin.Old
provenance_of p.New = origin.New
provenance_of p.Xform = origin.Xform
provenance_of p.Client = origin.Client

-- where a version's name of this sort stands
abbrev pub home_in : World → Sort2 → version.Version → Bytes → Home
home_in W sort.Cell = cell_part W.first W.second
home_in W sort.Code = code_part W.first W.second

-- the name, where the program declares it
abbrev pub declared_name : Program → Sort2 → Bytes → Option Bytes
declared_name p sort.Cell x = option_map (λ (g : GlobalVar). g.name) (global_named p.globals x)
declared_name p sort.Code x = option_map (λ (f : Func). f.name) (func_named p.funcs x)

abbrev pub program_of : worlds.World → part_version.Version → Program
program_of w v.Old = w.old_prog.program
program_of w v.New = w.new_prog.program

-- the home of what one version alone has
abbrev pub own_home : part_version.Version → Home
own_home v.Old = home.Old
own_home v.New = home.New

-- y, where the version alone has it, and else x, which stands for nothing
abbrev pub alone : (version.Version → Bytes → Home) → part_version.Version → Bytes → Bytes → home.Linked
alone homes v y x = if same_home (homes (version_of v) y) (own_home v) then (own_home v, y) else (home.Unlinked, x)
