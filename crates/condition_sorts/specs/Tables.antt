-- The kinds of a function's parameters and locals as the code keeps them.
use Rattle.std.specs.Prelude.{◌≡◌, map, Option}
use Rattle.c_lang.specs.Names.{Bytes}
use Rattle.c_lang.specs.Trees.{statements, statement_of}
use Rattle.c_lang.specs.declared.stmt.Kind.{Kind}
use Rattle.c_lang.specs.declared.program.Func.{Func}
use Rattle.name_tables.specs.declared.table.NameTable.{NameTable}
use Rattle.name_tables.specs.Tables.{found}
use Rattle.weakest_preconditions.specs.Sorts.{or_else, parameter_kind, local_kind_in}

abbrev pub kind_in : Func → Bytes → Option Kind
kind_in f x = or_else (parameter_kind x f.params) (local_kind_in x (statements (map statement_of f.body)))

abbrev pub HasKinds : NameTable Kind → Func → Type 0
HasKinds table f = (x : Bytes) → found table x ≡ kind_in f x
