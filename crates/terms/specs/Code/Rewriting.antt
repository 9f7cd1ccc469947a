-- The nodes of a formula in which names are replaced, made from the first node on.
use Rattle.std.specs.Prelude.{ℕ, ◌+◌, List, [], ◌∷◌, ◌++◌, Option, Some, None, Bool, false, if◌then◌else◌}
use Rattle.terms.specs.declared.sym.Sym.{Sym}
use Rattle.terms.specs.declared.node.Node.{Node}
use Rattle.terms.specs.declared.node.NodeKind.{NodeKind}
use Rattle.terms.specs.declared.node.NodeKind.TheVariants as kind
use Rattle.terms.specs.declared.replace.Replacement.{Replacement}
use Rattle.terms.specs.declared.replace.Replacement.TheVariants as replacement
use Rattle.terms.specs.Symbols.{same_sym}
use Rattle.terms.specs.Trees.{name}
use Rattle.terms.specs.Nodes.{node, term_nodes, array_nodes}
use Rattle.terms.specs.Replacing.{Change, number_by, array_by, change_in}
use Rattle.terms.specs.Code.Operands.{end_size, before_last}

-- the change that a replacement is
abbrev pub change_of : Replacement → Change
change_of (replacement.Number x t) = number_by x.now t.now
change_of (replacement.Array x a) = array_by x.now a.now
change_of (replacement.Many c) = change_in c.now

-- the same, where a bound name stays
abbrev pub is_bound : Option Sym → Sym → Bool
is_bound None y = false
is_bound (Some x) y = same_sym x y

abbrev pub change_below : Option Sym → Change → Change
change_below bound c = record c { number = λ y. if is_bound bound y then name y else c.number y }

-- the size of the operands that an operator of this kind finds at the end
unfoldable pub operands_size : NodeKind → List Node → ℕ
operands_size (kind.Num z) ns = 0
operands_size (kind.Of x) ns = 0
operands_size (kind.Base x) ns = 0
operands_size kind.True ns = 0
operands_size kind.False ns = 0
operands_size kind.Truth ns = end_size ns
operands_size kind.Not ns = end_size ns
operands_size kind.Store ns = end_size (before_last (before_last ns)) + (end_size (before_last ns) + end_size ns)
operands_size k ns = end_size (before_last ns) + end_size ns

unfoldable pub put_operator : List Node → NodeKind → List Node
put_operator ns k = ns ++ (node k (1 + operands_size k ns) ∷ [])

unfoldable pub put_node : Change → List Node → NodeKind → List Node
put_node c ns (kind.Of x) = ns ++ term_nodes (c.number x)
put_node c ns (kind.Base x) = ns ++ array_nodes (c.array x)
put_node c ns k = put_operator ns k

abbrev pub put_nodes : Change → List Node → List Node → List Node
put_nodes c done [] = done
put_nodes c done (n ∷ ns) = put_nodes c (put_node c done n.kind) ns
