-- A program's functions by their numbers, and the lengths of its arrays.
use Rattle.std.specs.Prelude.{ℕ, suc, if◌then◌else◌, List, [], ◌∷◌, length}
use Rattle.std.specs.Str.{bytes_eq}
use Rattle.c_lang.specs.Names.{Bytes}
use Rattle.c_lang.specs.Programs.{global_named, initial_elements}
use Rattle.c_lang.specs.declared.program.Func.{Func}
use Rattle.c_lang.specs.declared.program.Program.{Program}

-- the number of the first function of that name, where the list begins with the one of number n; 0 where there is none
abbrev pub number_from : ℕ → List Func → Bytes → ℕ
number_from n [] f = 0
number_from n (d ∷ ds) f = if bytes_eq d.name f then n else number_from (suc n) ds f

-- functions are numbered in the order of their declarations, from 1
abbrev pub function_number : Program → Bytes → ℕ
function_number p f = number_from 1 p.funcs f

-- 0 for a name that is no array
abbrev pub array_length : Program → Bytes → ℕ
array_length p a = length (initial_elements (global_named p.globals a))
