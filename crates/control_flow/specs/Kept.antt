-- What every graph keeps of its nodes and of their counts.
use Rattle.std.specs.Prelude.{◌≡◌, ℕ, min, nat_lt, Bool, true, ◌&&◌, List, [], ◌∷◌, map, length, reverse, get_or}
use Rattle.c_lang.specs.declared.program.Func.{Func}
use Rattle.weakest_preconditions.specs.Wp.{Condition}
use Rattle.weakest_preconditions.specs.Conditions.{at_end}
use Rattle.annotated_bodies.specs.Sources.{Sources, context_in}
use Rattle.annotated_bodies.specs.Seen.{seen_annotated}
use Rattle.control_flow.specs.declared.node.Node as code
use Rattle.control_flow.specs.declared.node.Node.TheVariants as node
use Rattle.control_flow.specs.Nodes.{Node, ends, turns, does}
use Rattle.control_flow.specs.Steps.{conditions_at}

abbrev pub seen_node : code.Node → Node
seen_node node.Ends = ends
seen_node (node.Turns p invariants) = turns p invariants
seen_node (node.Does t first second) = does (seen_annotated t.now) first second

-- the nodes of a list, the last one first
abbrev pub nodes_of : List code.Node → List Node
nodes_of l = reverse (map seen_node l)

-- what follows the node has smaller numbers than n
abbrev pub is_above : ℕ → Node → Bool
is_above n (does t first second) = nat_lt first n && nat_lt second n
is_above n ends = true
is_above n (turns p invariants) = true

-- what follows a node has smaller numbers than the node
abbrev pub are_ordered : List Node → Bool
are_ordered [] = true
are_ordered (node ∷ nodes) = is_above (length nodes) node && are_ordered nodes

-- the conditions at the node of the function f with a number
abbrev pub conditions_for : Sources → Func → List code.Node → ℕ → List Condition
conditions_for s f nodes n = conditions_at (context_in s) f.name (at_end (context_in s) f) (nodes_of nodes) n

-- A number that doesn't fit 64 bits is the greatest that does.
abbrev pub capped : ℕ → ℕ
capped n = min n 18446744073709551615

-- each count says how many conditions there are at its node
abbrev pub HasCounts : Sources → Func → List code.Node → List ℕ → Type 0
HasCounts s f nodes counts = (n : ℕ) → get_or counts n 0 ≡ capped (length (conditions_for s f nodes n))
