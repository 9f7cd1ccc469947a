-- Where a version's names stand, and which globals changed.
use Rattle.std.specs.Prelude.{◌≡◌, Bool, true, false, not, ◌&&◌, ◌||◌, if◌then◌else◌, List, [], ◌∷◌, Option, Some, None, is_some}
use Rattle.c_lang.specs.Names.{Bytes}
use Rattle.version_names.specs.Version as version
use Rattle.version_names.specs.Home.{Home, Both, Old, New, Xform, Client, Unlinked}
use Rattle.c_lang.specs.Programs.{global_named}
use Rattle.version_names.specs.Links.{is_shared_cell, cell_part, code_part}
use Rattle.c_lang.specs.declared.program.GlobalVar.{GlobalVar}
use Rattle.c_lang.specs.declared.program.Program.{Program}
use Rattle.version_names.specs.declared.part.Version.{Version}
use Rattle.version_names.specs.declared.part.Version.TheVariants as v
use Rattle.version_names.specs.declared.part.Part.{Part}
use Rattle.version_names.specs.declared.part.Part.TheVariants as part
use Rattle.version_names.specs.declared.part.Sort2.{Sort2}
use Rattle.version_names.specs.declared.part.Sort2.TheVariants.{Cell, Code}
use Rattle.version_names.specs.declared.status.Status.{Status}
use Rattle.version_names.specs.declared.status.Status.TheVariants.{Shared, Changed, Removed, Added}
use Rattle.version_names.specs.declared.links.Links.{Links}
use Rattle.version_names.specs.Code.Tables.{found}

abbrev pub version_of : Version → version.Version
version_of v.Old = version.Old
version_of v.New = version.New

-- a home that a version's name has; none where the version lacks it
abbrev pub part_at : Home → Option Part
part_at Both = Some part.Both
part_at Old = Some part.Old
part_at New = Some part.New
part_at Xform = None
part_at Client = None
part_at Unlinked = None

-- the part of a version's name
abbrev pub part_of : Program → Program → Version → Sort2 → Bytes → Option Part
part_of first second v Cell x = part_at (cell_part first second (version_of v) x)
part_of first second v Code f = part_at (code_part first second (version_of v) f)

-- where each name of a version stands
abbrev pub Parts : Type 0
Parts = Version → Sort2 → Bytes → Option Part

-- a version has the name, as a global or as a function
abbrev pub in_version : Parts → Bytes → Bool
in_version parts x =
    is_some (parts v.Old Cell x) || is_some (parts v.Old Code x) || is_some (parts v.New Cell x) || is_some (parts v.New Code x)

-- both versions have it as a global, and not alike
abbrev pub is_changed_cell : Program → Program → Bytes → Bool
is_changed_cell first second x =
    is_some (global_named first.globals x) && (is_some (global_named second.globals x) && not (is_shared_cell first second x))

abbrev pub changed_among : Program → Program → List GlobalVar → List Bytes
changed_among first second [] = []
changed_among first second (g ∷ gs) =
    if is_changed_cell first second g.name then g.name ∷ changed_among first second gs else changed_among first second gs

-- in the new program's order
abbrev pub changed_cells : Program → Program → List Bytes
changed_cells first second = changed_among first second second.globals

-- ---- what is kept of it

abbrev pub part_by : Version → Option Status → Option Part
part_by v None = None
part_by v (Some Shared) = Some part.Both
part_by v.Old (Some Changed) = Some part.Old
part_by v.New (Some Changed) = Some part.New
part_by v.Old (Some Removed) = Some part.Old
part_by v.New (Some Removed) = None
part_by v.Old (Some Added) = None
part_by v.New (Some Added) = Some part.New

abbrev pub is_changed : Option Status → Bool
is_changed (Some Changed) = true
is_changed _ = false

abbrev pub changed_by : List (Bytes × Status) → List GlobalVar → List Bytes
changed_by entries [] = []
changed_by entries (g ∷ gs) = if is_changed (found entries g.name) then g.name ∷ changed_by entries gs else changed_by entries gs

abbrev pub entries_of : Links → Sort2 → List (Bytes × Status)
entries_of links Cell = links.cells
entries_of links Code = links.codes

-- where links say that names stand
abbrev pub parts_in : Links → Parts
parts_in links v s x = part_by v (found (entries_of links s) x)

-- the links of these two programs
pub record IsLinked (first second : Program) (links : Links) : Type 0 where
  pub parts : (v : Version) (sort : Sort2) (x : Bytes) → part_by v (found (entries_of links sort) x) ≡ part_of first second v sort x
  pub changed : links.changed ≡ changed_cells first second
