-- What contracts see of a graph.
use Rattle.std.specs.Prelude.{◌≡◌, ⊤, ℕ, ◌<◌, List, [], Option, Some, None}
use Rattle.weakest_preconditions.specs.Wp.{Condition}
use Rattle.weakest_preconditions.specs.Conditions.{at_end}
use Rattle.annotated_bodies.specs.Sources.{context_in}
use Rattle.control_flow.specs.declared.node.Node as code
use Rattle.control_flow.specs.declared.graph.Graph.{Graph}
use Rattle.control_flow.specs.Nodes.{Node, ends, turns, does}
use Rattle.control_flow.specs.Steps.{at_node}
use Rattle.control_flow.specs.Kept.{seen_node, conditions_for}

-- the conditions at the node with a number
abbrev pub conditions_in : Graph → ℕ → List Condition
conditions_in g n = conditions_for g.context.now g.func.now g.nodes.items n

-- what follows the node has smaller numbers than n
abbrev pub IsAbove : ℕ → Node → Type 0
IsAbove n (does t first second) = (first < n) × (second < n)
IsAbove n ends = ⊤
IsAbove n (turns p invariants) = ⊤

-- the node with the number n
pub record IsNode (g : Graph) (n : ℕ) (node : Node) : Type 0 where
  pub above : IsAbove n node
  pub conditions : conditions_in g n ≡ at_node (context_in g.context.now) g.func.now.name (at_end (context_in g.context.now) g.func.now) node (conditions_in g)

-- what a look at a number finds; where there is no node, there are no conditions
abbrev pub IsNodeAt : Graph → ℕ → Option code.Node → Type 0
IsNodeAt g n None = conditions_in g n ≡ []
IsNodeAt g n (Some node) = IsNode g n (seen_node node)
