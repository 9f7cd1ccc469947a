-- The names in nodes.
use Rattle.std.specs.Prelude.{Bool, false, if◌then◌else◌, List, [], ◌∷◌, flat_map, Option, Some, None}
use Rattle.std.specs.List.{list_any}
use Rattle.terms.specs.declared.sym.Sym.{Sym}
use Rattle.terms.specs.declared.node.Node.{Node}
use Rattle.terms.specs.declared.node.NodeKind.{NodeKind}
use Rattle.terms.specs.declared.node.NodeKind.TheVariants as kind
use Rattle.terms.specs.Names.{Occurrence, as_number, as_array, is_number}
use Rattle.terms.specs.Code.Rewriting.{is_bound}

-- whether the name of a node passes a test
unfoldable pub node_passes : (Occurrence → Bool) → NodeKind → Bool
node_passes test (kind.Of x) = test (as_number x)
node_passes test (kind.Base x) = test (as_array x)
node_passes test k = false

abbrev pub nodes_pass : (Occurrence → Bool) → List Node → Bool
nodes_pass test nodes = list_any (λ n. node_passes test n.kind) nodes

-- the name of a node, but for a bound number
unfoldable pub node_names : Option Sym → NodeKind → List Occurrence
node_names bound (kind.Of x) = if is_bound bound x then [] else as_number x ∷ []
node_names bound (kind.Base x) = as_array x ∷ []
node_names bound k = []

abbrev pub nodes_names : Option Sym → List Node → List Occurrence
nodes_names bound nodes = flat_map (λ n. node_names bound n.kind) nodes

-- whether an occurrence is the bound number
abbrev pub is_bound_number : Option Sym → Occurrence → Bool
is_bound_number None o = false
is_bound_number (Some x) o = is_number x o
