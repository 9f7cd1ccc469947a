-- The arrays of which a fact speaks, as a table of their names.
use Rattle.std.specs.Prelude.{Bool, is_some}
use Rattle.std.specs.List.{list_any}
use Rattle.c_lang.specs.Names.{Bytes}
use Rattle.terms.specs.declared.fact.Fact.{Fact}
use Rattle.terms.specs.Names.{fact_names}
use Rattle.expression_conditions.specs.Meanings.{current}
use Rattle.name_tables.specs.declared.table.NameTable.{NameTable}
use Rattle.name_tables.specs.Tables.{found}
use Rattle.weakest_preconditions.specs.Conditions.{is_array}

abbrev pub has : {V : Type 0} → NameTable V → Bytes → Bool
has table x = is_some (found table x)

-- whether the current value of the name stands there as an array
abbrev pub mentions_array : Fact → Bytes → Bool
mentions_array f x = list_any (is_array (current x)) (fact_names f)
