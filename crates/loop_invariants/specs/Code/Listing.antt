-- What is looked for in a body: a cell that the contract of its function doesn't list.
use Rattle.std.specs.Prelude.{◌==◌, Bool, not, ◌&&◌, List, map, filter, length}
use Rattle.std.specs.List.{list_any}
use Rattle.std.specs.Option.{is_some}
use Rattle.c_lang.specs.Names.{Bytes}
use Rattle.c_lang.specs.Programs.{global_named}
use Rattle.name_tables.specs.declared.table.NameTable.{NameTable}
use Rattle.name_tables.specs.Tables.{found}
use Rattle.loop_invariants.specs.Context.{Context, context_of}
use Rattle.loop_invariants.specs.declared.assigned.Listing.{Listing}

abbrev pub has : {V : Type 0} → NameTable V → Bytes → Bool
has set x = is_some (found set x)

-- a global that isn't listed
abbrev pub is_missing : Listing → Bytes → Bool
is_missing l x = is_some (global_named l.names.now.globals x) && not (has l.listed x)

abbrev pub some_missing : Listing → List Bytes → Bool
some_missing l xs = list_any (is_missing l) xs

-- what is read of the program and the hints, where these functions are those whose names are values
abbrev pub context_by : Listing → Context
context_by l = record (context_of l.names.now l.hints.now) {
  reached = λ n. map (λ d. d.name) (filter (λ d. length d.params == n) (map (λ f. f.now) l.values.now));
}
