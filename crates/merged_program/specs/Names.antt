-- The names of a merged program.
use Rattle.std.specs.Prelude.{Bool, not, ◌&&◌, ◌++◌, if◌then◌else◌, ℕ, nat_eq, codes}
use Rattle.std.specs.List.{starts_with}
use Rattle.std.specs.Fmt.{decimal}
use Rattle.c_lang.specs.Names.{Bytes, is_reserved}
use Rattle.version_names.specs.Home.{Linked}
use Rattle.version_names.specs.Home as home
use Rattle.version_names.specs.Merged.{merged_name}
use Rattle.version_names.specs.Provenance.{Provenance}
use Rattle.version_names.specs.declared.part.Origin.TheVariants.{Both, Any, Old, New, Xform, Client}
use Rattle.update_semantics.specs.UpdatingRun.{World, cell_meaning, function_meaning}

-- whether the update has happened
abbrev pub now_name : Bytes
now_name = codes "dsu_now"

-- what a point has asked
abbrev pub choice_name : Bytes
choice_name = codes "dsu_c"

-- what is handed on
abbrev pub result_name : Bytes
result_name = codes "dsu_r"

-- a wrapper's parameters, counted from 1
abbrev pub parameter_name : ℕ → Bytes
parameter_name n = codes "dsu_a" ++ decimal n

-- begins with `dsu_`, and is none of the parser's temporaries `dsu_tN`
abbrev pub is_foreign : Bytes → Bool
is_foreign x = is_reserved x && not (starts_with nat_eq x (codes "dsu_t"))

-- Parameters and locals keep their names. A foreign name, which no source has for one, is set apart from
-- the merged names all the same, so that two names never become one.
abbrev pub kept_name : Bytes → Bytes
kept_name x = if is_foreign x then codes "dsu_" ++ x else x

abbrev pub cell_name : Linked → Bytes
cell_name (home.Both, x) = merged_name Both x
cell_name (home.Old, x) = merged_name Old x
cell_name (home.New, x) = merged_name New x
cell_name (home.Xform, x) = merged_name Xform x
cell_name (home.Client, x) = merged_name Client x
cell_name (home.Unlinked, x) = kept_name x

-- a shared function is called by its wrapper
abbrev pub code_name : Linked → Bytes
code_name (home.Both, f) = merged_name Any f
code_name (home.Old, f) = merged_name Old f
code_name (home.New, f) = merged_name New f
code_name (home.Xform, f) = merged_name Xform f
code_name (home.Client, f) = merged_name Client f
code_name (home.Unlinked, f) = kept_name f

-- what the names become that stand in code of this origin
abbrev pub variable_name : World → Provenance → Bytes → Bytes
variable_name W o x = cell_name (cell_meaning W o x)

abbrev pub function_name : World → Provenance → Bytes → Bytes
function_name W o f = code_name (function_meaning W o f)
