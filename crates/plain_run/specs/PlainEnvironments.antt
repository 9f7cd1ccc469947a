-- What the environment of a plain run stands for.
use Rattle.std.specs.Prelude.{⊤}
use Rattle.std.specs.Borrow.{Bor}
use Rattle.c_lang.specs.Names.{Bytes}
use Rattle.c_lang.specs.Programs.{no_func, global_named, initial_value, initial_elements}
use Rattle.c_lang.specs.declared.program.Program.{Program}
use Rattle.plain_run.specs.Environments.{Rules, Sees}
use Rattle.plain_run.specs.PlainRun.{Store, plain_access, dropped}
use Rattle.plain_run.specs.Code.Names.{Entries, Arrays, plain_function, seen_values, seen_arrays}
use Rattle.plain_run.specs.declared.plain.Plain.{Plain}

-- a function's name stands for itself
abbrev pub plain_sees : Sees (Bor Bytes) ⊤ Bytes ⊤
plain_sees = record { function = plain_function; origin = λ o. tt }

-- no update comes
abbrev pub plain_rules : Program → Rules Bytes Store ⊤
plain_rules P = record { access = plain_access P; special = dropped P; update = λ s. s; transformer = (tt, no_func) }

abbrev pub store_with : Entries (Bor Bytes) → Arrays → Store
store_with values arrays = record { values = seen_values plain_function values; arrays = seen_arrays arrays }

abbrev pub rules_of : Plain → Rules Bytes Store ⊤
rules_of e = plain_rules e.program

abbrev pub store_of : Plain → Store
store_of e = store_with e.values.entries e.arrays.entries

-- the globals at the start
abbrev pub initial_store : Program → Store
initial_store P = record { values = λ x. initial_value (λ f. f) (global_named P.globals x); arrays = λ x. initial_elements (global_named P.globals x) }
