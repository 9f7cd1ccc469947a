-- The values that a name got, the first one first.
use Rattle.std.specs.Prelude.{ℕ, ◌-◌, Bool, false, nat_eq, nat_lt, if◌then◌else◌, List, [], ◌∷◌, ◌++◌, length, take, Option, Some, None, Vec}
use Rattle.std.specs.Map.{lookup}
use Rattle.std.specs.Str.{bytes_eq}
use Rattle.std.specs.declared.alloc.Global.{Global}
use Rattle.c_lang.specs.Names.{Bytes}
use Rattle.symbolic_state.specs.declared.bindings.Binding.{Binding}
use Rattle.symbolic_state.specs.declared.bindings.Bindings.{Bindings}

abbrev pub items_or_none : Option (Vec Binding Global) → List Binding
items_or_none None = []
items_or_none (Some bs) = bs.items

abbrev pub values_of : Bindings → Bytes → List Binding
values_of table x = items_or_none (lookup (λ k. bytes_eq x k) table.names.entries)

-- whether the last of them is of this step
abbrev pub ends_at : ℕ → List Binding → Bool
ends_at n [] = false
ends_at n (b ∷ []) = nat_eq b.step n
ends_at n (b ∷ (c ∷ bs)) = ends_at n (c ∷ bs)

-- with a value more, where its step has none yet
abbrev pub bound : List Binding → Binding → List Binding
bound bs b = if ends_at b.step bs then bs else bs ++ (b ∷ [])

-- all but the last
abbrev pub front : List Binding → List Binding
front bs = take (length bs - 1) bs

-- without the value of this step, which is the last one
abbrev pub unbound : ℕ → List Binding → List Binding
unbound n bs = if ends_at n bs then front bs else bs

-- the last one of an earlier step
abbrev pub later : Option Binding → Binding → Option Binding
later None b = Some b
later (Some c) b = Some c

abbrev pub latest : ℕ → List Binding → Option Binding
latest t [] = None
latest t (b ∷ bs) = if nat_lt b.step t then later (latest t bs) b else latest t bs
