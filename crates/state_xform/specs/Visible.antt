-- What the functions of a transformer see: what its unit declares, then what the two versions declare.
-- Of several declarations of one name the first counts.
use Rattle.std.specs.Prelude.{List, [], ◌∷◌, Option, Some, None}
use Rattle.c_lang.specs.Refusals as refused
use Rattle.c_lang.specs.Names.{Bytes}
use Rattle.c_lang.specs.declared.program.GlobalVar.{GlobalVar}
use Rattle.c_lang.specs.declared.program.Func.{Func}
use Rattle.c_lang.specs.declared.program.Program.{Program}
use Rattle.c_types.specs.Names.{Means, Code, Refused, Entries, added}
use Rattle.c_types.specs.Functions.{kinds_of, arity_as_value}
use Rattle.c_types.specs.Programs.{means_of_shape}
use Rattle.version_names.specs.Merged.{merged_name}
use Rattle.version_names.specs.declared.part.Origin.{Origin}
use Rattle.version_names.specs.declared.part.Origin.TheVariants as origin
use Rattle.version_names.specs.declared.part.Version.{Version}
use Rattle.version_names.specs.declared.part.Version.TheVariants as version
use Rattle.version_names.specs.declared.part.Part.{Part}
use Rattle.version_names.specs.declared.part.Part.TheVariants.{Both, Old, New}
use Rattle.version_names.specs.declared.part.Sort2.TheVariants as sort
use Rattle.version_names.specs.Parts.{Parts}
use Rattle.c_types.specs.Beside.{own_names}

-- ---- the versions'

-- the name of a version's function is a value as it is there, and 19 refuses a call
abbrev pub version_func : Func → Means
version_func f = Code (kinds_of f.params) f.gives (arity_as_value (kinds_of f.params) f.gives) (Some refused.transformer_effect)

-- what one version alone has is seen behind a prefix, and its own name is unknown
abbrev pub with_prefixed : Origin → Entries → Bytes → Means → Entries
with_prefixed o entries x m = added (added entries (merged_name o x) m) x (Refused refused.unknown)

-- what both versions have is seen by its own name
abbrev pub with_part : Option Part → Entries → Bytes → Means → Entries
with_part (Some Both) entries x m = added entries x m
with_part (Some Old) entries x m = with_prefixed origin.Old entries x m
with_part (Some New) entries x m = with_prefixed origin.New entries x m
with_part None entries x m = entries

module _ (parts : Parts) (v : Version) where
  abbrev pub with_cells : Entries → List GlobalVar → Entries
  with_cells entries [] = entries
  with_cells entries (g ∷ gs) = with_cells (with_part (parts v sort.Cell g.name) entries g.name (means_of_shape g.shape)) gs

  abbrev pub with_codes : Entries → List Func → Entries
  with_codes entries [] = entries
  with_codes entries (f ∷ fs) = with_codes (with_part (parts v sort.Code f.name) entries f.name (version_func f)) fs

  abbrev pub with_version : Entries → Program → Entries
  with_version entries p = with_codes (with_cells entries p.globals) p.funcs

-- ---- all of it

abbrev pub visible : Parts → Program → Program → Program → Entries
visible parts first second p = with_version parts version.New (with_version parts version.Old (own_names None p) first) second
