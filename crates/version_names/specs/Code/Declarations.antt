-- The names that a version declares, each with what the other version's declaration is compared with.
use Rattle.std.specs.Prelude.{Bool, true, false, ◌&&◌, ◌==◌, if◌then◌else◌, List, [], ◌∷◌, length, Option, Some, None}
use Rattle.std.specs.Str.{bytes_eq}
use Rattle.c_lang.specs.Names.{Bytes}
use Rattle.c_lang.specs.Kinds.{same_kinds, same_result}
use Rattle.c_types.specs.Functions.{kinds_of}
use Rattle.c_lang.specs.declared.program.Shape.{Shape}
use Rattle.c_lang.specs.declared.program.Shape.TheVariants as shape
use Rattle.c_lang.specs.declared.program.GlobalVar.{GlobalVar}
use Rattle.c_lang.specs.declared.program.Func.{Func}
use Rattle.version_names.specs.declared.declared.What.{What}
use Rattle.version_names.specs.declared.declared.What.TheVariants.{Number, Array, Pointer, Code}
use Rattle.version_names.specs.declared.declared.Declared.{Declared}

abbrev pub what_of_shape : Shape → What
what_of_shape (shape.Int z) = Number
what_of_shape (shape.Arr zs) = Array (length zs)
what_of_shape (shape.Fp n f) = Pointer n

-- the same but for initial values
abbrev pub same_what : What → What → Bool
same_what Number Number = true
same_what (Array m) (Array n) = m == n
same_what (Pointer m) (Pointer n) = m == n
same_what (Code js gives) (Code ks other) = same_kinds js ks && same_result gives other
same_what _ _ = false

abbrev pub declared_global : GlobalVar → Declared
declared_global g = record { name = g.name; what = what_of_shape g.shape }

abbrev pub declared_func : Func → Declared
declared_func f = record { name = f.name; what = Code (kinds_of f.params) f.gives }

-- of several with one name the first counts
abbrev pub declared_as : List Declared → Bytes → Option What
declared_as [] x = None
declared_as (d ∷ ds) x = if bytes_eq d.name x then Some d.what else declared_as ds x
