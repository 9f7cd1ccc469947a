-- The punctuators, with their numbers.
use Rattle.std.specs.Prelude.{⊤, ◌≡◌, ℕ, List, [], ◌∷◌, ◌++◌, Option, None, bytes_eq, codes}
use Rattle.std.specs.List.{position_from}
use Rattle.c_lang.specs.Names.{Bytes}

abbrev pub punctuators : List Bytes
punctuators =
    codes "(" ∷ codes ")" ∷ codes "{" ∷ codes "}" ∷ codes "[" ∷ codes "]" ∷ codes ";" ∷ codes ","
    ∷ codes "=" ∷ codes "+" ∷ codes "-" ∷ codes "*" ∷ codes "/" ∷ codes "%" ∷ codes "!" ∷ codes "<" ∷ codes ">"
    ∷ codes "<=" ∷ codes ">=" ∷ codes "==" ∷ codes "!=" ∷ codes "&&" ∷ codes "||" ∷ codes "++" ∷ codes "--"
    ∷ []

-- the place of a text among the punctuators
unfoldable pub punctuator_number : Bytes → Option ℕ
punctuator_number text = position_from (bytes_eq text) 0 punctuators

-- no punctuator is this text with the next byte
abbrev pub IsLongest : Bytes → Bytes → Type 0
IsLongest text [] = ⊤
IsLongest text (byte ∷ rest) = punctuator_number (text ++ byte ∷ []) ≡ None
