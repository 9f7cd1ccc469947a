-- What is written up to a size, its room.
use Rattle.std.specs.Prelude.{◌≡◌, ℕ, ◌+◌, ◌<◌, ◌≤◌, Bool, true, false, List, ◌++◌, length, Option, Some, None, Vec}
use Rattle.std.specs.declared.alloc.Global.{Global}
use Rattle.terms.specs.declared.node.Node.{Node}
use Rattle.terms.specs.declared.fact.Fact.{Fact}
use Rattle.terms.specs.Sizes.{facts_size}
use Rattle.symbolic_state.specs.declared.gathered.Gathered.{Gathered}

-- the whole, or nothing, which is only where its size is past the room
abbrev pub UpTo : {T : Type 0} → ℕ → ℕ → T → Option T → Type 0
UpTo room size whole None = room < size
UpTo room size whole (Some made) = made ≡ whole

-- the same of a list of nodes
abbrev pub NodesUpTo : ℕ → List Node → Option (Vec Node Global) → Type 0
NodesUpTo room whole None = room < length whole
NodesUpTo room whole (Some made) = made.items ≡ whole

-- These facts were put behind the others, and no more room was taken than their size; or they weren't, which is only
-- where they are larger than the room.
abbrev pub IsPut : Gathered → Gathered → List Fact → Bool → Type 0
IsPut old new more true = (new.facts.items ≡ old.facts.items ++ more) × (old.left ≤ new.left + facts_size more)
IsPut old new more false = old.left < facts_size more
