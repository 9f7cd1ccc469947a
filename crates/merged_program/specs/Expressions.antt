-- Expressions and destinations under other names: ρ for variables, κ for functions.
use Rattle.std.specs.Prelude.{List, map, Option}
use Rattle.std.specs.Option.{option_map}
use Rattle.c_lang.specs.Names.{Bytes}
use Rattle.c_lang.specs.Trees.{Expression, literal, variable, element, function, null, negation, logical_not, binary}
use Rattle.c_lang.specs.declared.stmt.Dest.{Dest}
use Rattle.c_lang.specs.declared.stmt.Dest.TheVariants.{Nowhere, Into, Fresh}

abbrev pub renamed_dest : (Bytes → Bytes) → Dest → Dest
renamed_dest ρ Nowhere = Nowhere
renamed_dest ρ (Into x) = Into (ρ x)
renamed_dest ρ (Fresh k x) = Fresh k (ρ x)

module _ (ρ κ : Bytes → Bytes) where
  abbrev pub renamed : Expression → Expression
  renamed (literal z) = literal z
  renamed (variable x) = variable (ρ x)
  renamed (element a i) = element (ρ a) (renamed i)
  renamed (function f) = function (κ f)
  renamed null = null
  renamed (negation e) = negation (renamed e)
  renamed (logical_not e) = logical_not (renamed e)
  renamed (binary o a b) = binary o (renamed a) (renamed b)

  abbrev pub all_renamed : List Expression → List Expression
  all_renamed = map renamed

  abbrev pub renamed_option : Option Expression → Option Expression
  renamed_option = option_map renamed
