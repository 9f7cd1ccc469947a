-- Places as the code keeps them.
use Rattle.std.specs.Prelude.{ℕ, unwrap_or}
use Rattle.c_lang.specs.Names.{Bytes}
use Rattle.name_tables.specs.declared.table.NameTable.{NameTable}
use Rattle.name_tables.specs.Tables.{found}
use Rattle.weakest_preconditions.specs.Annotating.{Place}
use Rattle.annotated_bodies.specs.declared.place.Place as code

abbrev pub count_in : NameTable ℕ → Bytes → ℕ
count_in table x = unwrap_or (found table x) 0

abbrev pub seen_place : code.Place → Place
seen_place p = record { loops = p.loops; counts = count_in p.counts }
