-- What the conditions of expressions read of a program.
use Rattle.std.specs.Prelude.{ℤ, pos}
use Rattle.c_lang.specs.Names.{Bytes}
use Rattle.c_lang.specs.declared.program.Program.{Program}
use Rattle.name_tables.specs.Declarations.{function_number, array_length}

-- the number by which a formula speaks of a function, and the length of an array
pub record Numbers : Type 0 where
  pub function : Bytes → ℤ
  pub length : Bytes → ℤ

abbrev pub numbers_in : Program → Numbers
numbers_in p = record { function = λ f. pos (function_number p f); length = λ a. pos (array_length p a) }
