-- A name and the bytes under it, as contracts see them.
use Rattle.std.specs.Prelude.{ℕ, Bool, List, String, Vec, string_bytes, bytes_eq}
use Rattle.std.specs.declared.alloc.Global.{Global}

abbrev pub named : String Global × Vec ℕ Global → List ℕ × List ℕ
named pair = (string_bytes pair.0, pair.1.items)

abbrev pub has_name : List ℕ → String Global × Vec ℕ Global → Bool
has_name name pair = bytes_eq (string_bytes pair.0) name
