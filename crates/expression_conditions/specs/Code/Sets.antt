-- Sets of names.
use Rattle.std.specs.Prelude.{Bool, is_some}
use Rattle.c_lang.specs.Names.{Bytes}
use Rattle.name_tables.specs.declared.table.NameTable.{NameTable}
use Rattle.name_tables.specs.Tables.{found}

abbrev pub has : {V : Type 0} → NameTable V → Bytes → Bool
has set x = is_some (found set x)
