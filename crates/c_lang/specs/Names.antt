-- Names as contracts see them, and what an identifier is.
use Rattle.std.specs.Prelude.{ℕ, Bool, false, ◌&&◌, ◌||◌, ◌==◌, nat_le, nat_eq, bytes_eq, if◌then◌else◌, List, [], ◌∷◌, length, drop, Option, Some, None, codes}
use Rattle.std.specs.List.{list_all, list_any, starts_with}

abbrev pub Bytes : Type 0
Bytes = List ℕ

abbrev pub is_digit : ℕ → Bool
is_digit byte = nat_le 48 byte && nat_le byte 57

-- an ASCII letter or `_`
abbrev pub is_letter : ℕ → Bool
is_letter byte = (nat_le 97 byte && nat_le byte 122) || (nat_le 65 byte && nat_le byte 90) || byte == 95

-- a letter or `_`, followed by letters, digits and `_`
abbrev pub is_word : Bytes → Bool
is_word [] = false
is_word (first ∷ rest) = is_letter first && list_all (λ byte. is_letter byte || is_digit byte) rest

-- the 44 keywords of C11
abbrev pub c_keywords : List Bytes
c_keywords =
    codes "auto" ∷ codes "break" ∷ codes "case" ∷ codes "char" ∷ codes "const" ∷ codes "continue"
    ∷ codes "default" ∷ codes "do" ∷ codes "double" ∷ codes "else" ∷ codes "enum" ∷ codes "extern"
    ∷ codes "float" ∷ codes "for" ∷ codes "goto" ∷ codes "if" ∷ codes "inline" ∷ codes "int"
    ∷ codes "long" ∷ codes "register" ∷ codes "restrict" ∷ codes "return" ∷ codes "short"
    ∷ codes "signed" ∷ codes "sizeof" ∷ codes "static" ∷ codes "struct" ∷ codes "switch"
    ∷ codes "typedef" ∷ codes "union" ∷ codes "unsigned" ∷ codes "void" ∷ codes "volatile"
    ∷ codes "while" ∷ codes "_Alignas" ∷ codes "_Alignof" ∷ codes "_Atomic" ∷ codes "_Bool"
    ∷ codes "_Complex" ∷ codes "_Generic" ∷ codes "_Imaginary" ∷ codes "_Noreturn"
    ∷ codes "_Static_assert" ∷ codes "_Thread_local" ∷ []

-- the tool's own keywords that don't begin with `dsu_`
abbrev pub own_keywords : List Bytes
own_keywords = codes "assert" ∷ codes "client_in" ∷ codes "client_out" ∷ []

abbrev pub is_keyword : Bytes → Bool
is_keyword name = list_any (bytes_eq name) c_keywords || list_any (bytes_eq name) own_keywords

abbrev pub is_reserved : Bytes → Bool
is_reserved name = starts_with nat_eq name (codes "dsu_")

-- what follows the first text in the second, which begins with it
abbrev pub behind : Bytes → Bytes → Option Bytes
behind prefix text = if starts_with nat_eq text prefix then Some (drop (length prefix) text) else None
