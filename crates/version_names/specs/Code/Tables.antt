-- Lists of names with what is known of them; of several entries of one name the first counts.
use Rattle.std.specs.Prelude.{if◌then◌else◌, List, [], ◌∷◌, ◌++◌, Option, bytes_eq, is_some}
use Rattle.std.specs.Map.{lookup}
use Rattle.c_lang.specs.Names.{Bytes}

abbrev pub found : {X : Type 0} → List (Bytes × X) → Bytes → Option X
found entries x = lookup (bytes_eq x) entries

abbrev pub added : {X : Type 0} → List (Bytes × X) → Bytes → X → List (Bytes × X)
added entries x value = if is_some (found entries x) then entries else entries ++ (x, value) ∷ []
