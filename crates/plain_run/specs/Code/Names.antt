-- What tables of names stand for. A table has each name once.
use Rattle.std.specs.Prelude.{ℤ, pos, Bool, List, [], Option, Some, None, Vec}
use Rattle.std.specs.Borrow.{Bor}
use Rattle.std.specs.Map.{lookup}
use Rattle.std.specs.Option.{option_map}
use Rattle.std.specs.Str.{bytes_eq}
use Rattle.std.specs.declared.alloc.Global.{Global}
use Rattle.c_lang.specs.Names.{Bytes}
use Rattle.c_lang.specs.Values as spec
use Rattle.plain_run.specs.Steps.{Locals}
use Rattle.plain_run.specs.declared.value.Value.{Value}
use Rattle.plain_run.specs.Values.{seen_value}

abbrev pub Entries : Type 0 → Type 0
Entries X = List (Bor Bytes × Value X)

abbrev pub Arrays : Type 0
Arrays = List (Bor Bytes × Vec ℤ Global)

abbrev pub same_name : Bor Bytes → Bor Bytes → Bool
same_name k n = bytes_eq k.now n.now

-- what a name has in a table
abbrev pub found : {X : Type 0} → List (Bor Bytes × X) → Bytes → Option X
found entries x = lookup (λ k. bytes_eq x k.now) entries

abbrev pub seen_locals : {X F : Type 0} → (X → F) → Entries X → Locals F
seen_locals see entries x = option_map (seen_value see) (found entries x)

abbrev pub value_or_zero : {X F : Type 0} → (X → F) → Option (Value X) → spec.Value F
value_or_zero see None = spec.Num (pos 0)
value_or_zero see (Some v) = seen_value see v

abbrev pub seen_values : {X F : Type 0} → (X → F) → Entries X → Bytes → spec.Value F
seen_values see entries x = value_or_zero see (found entries x)

abbrev pub elements_or_none : Option (Vec ℤ Global) → List ℤ
elements_or_none None = []
elements_or_none (Some elements) = elements.items

abbrev pub seen_arrays : Arrays → Bytes → List ℤ
seen_arrays entries x = elements_or_none (found entries x)

-- a function's name stands for itself
abbrev pub plain_function : Bor Bytes → Bytes
plain_function n = n.now
