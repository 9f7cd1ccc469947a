-- When two formulas are the same as written: where their nodes are the same.
use Rattle.std.specs.Prelude.{ℕ, ℤ, Bool, true, false, ◌&&◌, nat_eq, List, Option, Some, None}
use Rattle.std.specs.Ordering.{int_eq}
use Rattle.std.specs.Cmp.Lexicographic.{pointwise}
use Rattle.terms.specs.declared.sym.Sym.{Sym}
use Rattle.terms.specs.declared.fact.Fact.{Fact}
use Rattle.terms.specs.declared.fact.Fact.TheVariants as fact
use Rattle.terms.specs.declared.node.Node.{Node}
use Rattle.terms.specs.declared.node.NodeKind.{NodeKind}
use Rattle.terms.specs.declared.node.NodeKind.TheVariants as kind
use Rattle.terms.specs.Symbols.{same_sym}
use Rattle.terms.specs.Trees.{TermTree, ArrayTree, FormTree}
use Rattle.terms.specs.Nodes.{term_nodes, array_nodes, form_nodes}

-- kinds of nodes by number
unfoldable pub ordinal : NodeKind → ℕ
ordinal (kind.Num z) = 0
ordinal (kind.Of x) = 1
ordinal kind.Add = 2
ordinal kind.Sub = 3
ordinal kind.Mul = 4
ordinal kind.Div = 5
ordinal kind.Rem = 6
ordinal kind.Read = 7
ordinal kind.Truth = 8
ordinal (kind.Base x) = 9
ordinal kind.Store = 10
ordinal kind.True = 11
ordinal kind.False = 12
ordinal kind.Le = 13
ordinal kind.Eq = 14
ordinal kind.Not = 15
ordinal kind.And = 16
ordinal kind.Or = 17

-- the number, and the name, that a node keeps
unfoldable pub number_in : NodeKind → Option ℤ
number_in (kind.Num z) = Some z
number_in k = None

unfoldable pub symbol_in : NodeKind → Option Sym
symbol_in (kind.Of x) = Some x
symbol_in (kind.Base x) = Some x
symbol_in k = None

unfoldable pub same_numbers : Option ℤ → Option ℤ → Bool
same_numbers None None = true
same_numbers (Some z) (Some w) = int_eq z w
same_numbers x y = false

unfoldable pub same_symbols : Option Sym → Option Sym → Bool
same_symbols None None = true
same_symbols (Some x) (Some y) = same_sym x y
same_symbols x y = false

unfoldable pub same_node : Node → Node → Bool
same_node n m = (nat_eq (ordinal n.kind) (ordinal m.kind) && nat_eq n.size m.size) && (same_numbers (number_in n.kind) (number_in m.kind) && same_symbols (symbol_in n.kind) (symbol_in m.kind))

abbrev pub same_nodes : List Node → List Node → Bool
same_nodes = pointwise same_node

abbrev pub same_term : TermTree → TermTree → Bool
same_term t u = same_nodes (term_nodes t) (term_nodes u)

abbrev pub same_array : ArrayTree → ArrayTree → Bool
same_array a b = same_nodes (array_nodes a) (array_nodes b)

abbrev pub same_form : FormTree → FormTree → Bool
same_form f g = same_nodes (form_nodes f) (form_nodes g)

abbrev pub same_fact : Fact → Fact → Bool
same_fact (fact.Plain f) (fact.Plain g) = same_form f g
same_fact (fact.All x lo hi f) (fact.All y low high g) = same_sym x y && (same_term lo low && (same_term hi high && same_form f g))
same_fact f g = false
