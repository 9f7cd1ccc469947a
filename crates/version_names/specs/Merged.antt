-- The names of a merged program.
use Rattle.std.specs.Prelude.{◌++◌, codes}
use Rattle.c_lang.specs.Names.{Bytes}
use Rattle.version_names.specs.declared.part.Origin.{Origin}
use Rattle.version_names.specs.declared.part.Origin.TheVariants.{Both, Any, Old, New, Xform, Client}

abbrev pub prefix : Origin → Bytes
prefix Both = codes "dsu_both_"
prefix Any = codes "dsu_any_"
prefix Old = codes "dsu_old_"
prefix New = codes "dsu_new_"
prefix Xform = codes "dsu_xform_"
prefix Client = codes "dsu_client_"

abbrev pub merged_name : Origin → Bytes → Bytes
merged_name origin x = prefix origin ++ x
