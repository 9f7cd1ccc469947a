-- What the code's tables of names stand for.
use Rattle.std.specs.Prelude.{Option}
use Rattle.std.specs.Option.{option_map}
use Rattle.c_lang.specs.Names.{Bytes}
use Rattle.c_types.specs.Names.{Means, Cell, Array, Code, Refused}
use Rattle.c_types.specs.declared.means.Means as code
use Rattle.c_types.specs.declared.means.Means.TheVariants as shown

abbrev pub seen_means : code.Means → Means
seen_means (shown.Cell k) = Cell k
seen_means shown.Array = Array
seen_means (shown.Code params gives value denied) = Code params gives value denied
seen_means (shown.Refused n) = Refused n

-- what a look-up gives
abbrev pub seen_name : Option code.Means → Option Means
seen_name o = option_map seen_means o

abbrev pub seen_entry : Bytes × code.Means → Bytes × Means
seen_entry e = (e.0, seen_means e.1)
