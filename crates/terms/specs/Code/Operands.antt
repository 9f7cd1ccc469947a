-- Where the operands of an operator stand.
use Rattle.std.specs.Prelude.{ℕ, ◌-◌, pos, List, [], ◌∷◌, length, take, drop, ◌≡◌, ⊤}
use Rattle.terms.specs.declared.node.Node.{Node}
use Rattle.terms.specs.declared.node.NodeKind.{NodeKind}
use Rattle.terms.specs.declared.node.NodeKind.TheVariants as kind
use Rattle.terms.specs.Trees.{TermTree, number, name, plus, minus, times, divided, remainder, read, truth, ArrayTree, array, stored, FormTree, always, never, at_most, equal, denied, both, either}
use Rattle.terms.specs.Nodes.{term_nodes, array_nodes, form_nodes, term_in, array_in, form_in}

-- the size of the part that ends in the last node
abbrev pub end_size : List Node → ℕ
end_size [] = 0
end_size (n ∷ []) = n.size
end_size (n ∷ (m ∷ ns)) = end_size (m ∷ ns)

-- the nodes before that part, and those of it
unfoldable pub before_last : List Node → List Node
before_last nodes = take (length nodes - end_size nodes) nodes

unfoldable pub last_part : List Node → List Node
last_part nodes = drop (length nodes - end_size nodes) nodes

abbrev pub IsTerm : List Node → Type 0
IsTerm nodes = nodes ≡ term_nodes (term_in nodes)

abbrev pub IsArray : List Node → Type 0
IsArray nodes = nodes ≡ array_nodes (array_in nodes)

abbrev pub IsForm : List Node → Type 0
IsForm nodes = nodes ≡ form_nodes (form_in nodes)

abbrev AreTerms : List Node → Type 0
AreTerms nodes = IsTerm (before_last nodes) × IsTerm (last_part nodes)

-- The term of an operator of this kind with these operands, and that its operands are what it takes.
abbrev pub term_of : NodeKind → List Node → TermTree
term_of (kind.Num z) nodes = number z
term_of (kind.Of x) nodes = name x
term_of kind.Add nodes = plus (term_in (before_last nodes)) (term_in (last_part nodes))
term_of kind.Sub nodes = minus (term_in (before_last nodes)) (term_in (last_part nodes))
term_of kind.Mul nodes = times (term_in (before_last nodes)) (term_in (last_part nodes))
term_of kind.Div nodes = divided (term_in (before_last nodes)) (term_in (last_part nodes))
term_of kind.Rem nodes = remainder (term_in (before_last nodes)) (term_in (last_part nodes))
term_of kind.Read nodes = read (array_in (before_last nodes)) (term_in (last_part nodes))
term_of kind.Truth nodes = truth (form_in nodes)
term_of k nodes = number (pos 0)

abbrev pub IsTermOf : NodeKind → List Node → Type 0
IsTermOf (kind.Num z) nodes = ⊤
IsTermOf (kind.Of x) nodes = ⊤
IsTermOf kind.Add nodes = AreTerms nodes
IsTermOf kind.Sub nodes = AreTerms nodes
IsTermOf kind.Mul nodes = AreTerms nodes
IsTermOf kind.Div nodes = AreTerms nodes
IsTermOf kind.Rem nodes = AreTerms nodes
IsTermOf kind.Read nodes = IsArray (before_last nodes) × IsTerm (last_part nodes)
IsTermOf kind.Truth nodes = IsForm nodes
IsTermOf k nodes = ⊥

abbrev pub array_of : NodeKind → List Node → ArrayTree
array_of (kind.Base x) nodes = array x
array_of kind.Store nodes = stored (array_in (before_last (before_last nodes))) (term_in (last_part (before_last nodes))) (term_in (last_part nodes))
array_of k nodes = array_in []

abbrev pub IsArrayOf : NodeKind → List Node → Type 0
IsArrayOf (kind.Base x) nodes = ⊤
IsArrayOf kind.Store nodes = IsArray (before_last (before_last nodes)) × (IsTerm (last_part (before_last nodes)) × IsTerm (last_part nodes))
IsArrayOf k nodes = ⊥

abbrev pub form_of : NodeKind → List Node → FormTree
form_of kind.True nodes = always
form_of kind.False nodes = never
form_of kind.Le nodes = at_most (term_in (before_last nodes)) (term_in (last_part nodes))
form_of kind.Eq nodes = equal (term_in (before_last nodes)) (term_in (last_part nodes))
form_of kind.Not nodes = denied (form_in nodes)
form_of kind.And nodes = both (form_in (before_last nodes)) (form_in (last_part nodes))
form_of kind.Or nodes = either (form_in (before_last nodes)) (form_in (last_part nodes))
form_of k nodes = never

abbrev pub IsFormOf : NodeKind → List Node → Type 0
IsFormOf kind.True nodes = ⊤
IsFormOf kind.False nodes = ⊤
IsFormOf kind.Le nodes = AreTerms nodes
IsFormOf kind.Eq nodes = AreTerms nodes
IsFormOf kind.Not nodes = IsForm nodes
IsFormOf kind.And nodes = IsForm (before_last nodes) × IsForm (last_part nodes)
IsFormOf kind.Or nodes = IsForm (before_last nodes) × IsForm (last_part nodes)
IsFormOf k nodes = ⊥
