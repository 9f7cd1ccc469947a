-- What a table has for a name.
use Rattle.std.specs.Prelude.{Option}
use Rattle.std.specs.Map.{lookup}
use Rattle.std.specs.Str.{bytes_eq}
use Rattle.c_lang.specs.Names.{Bytes}
use Rattle.name_tables.specs.declared.table.NameTable.{NameTable}

abbrev pub found : {V : Type 0} → NameTable V → Bytes → Option V
found table x = lookup (λ k. bytes_eq x k.now) table.index.entries
