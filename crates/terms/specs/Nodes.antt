-- The nodes of a formula in postfix order, in which operands stand before their operator.
use Rattle.std.specs.Prelude.{ℕ, ◌+◌, pos, List, [], ◌∷◌, ◌++◌}
use Rattle.terms.specs.declared.node.Node.{Node}
use Rattle.terms.specs.declared.node.NodeKind.{NodeKind}
use Rattle.terms.specs.declared.node.NodeKind.TheVariants as kind
use Rattle.terms.specs.Trees.{TermTree, number, name, plus, minus, times, divided, remainder, read, truth, ArrayTree, array, stored, FormTree, always, never, at_most, equal, denied, both, either}

-- how many nodes there are
abbrev mutual
  pub term_size : TermTree → ℕ
  term_size (number z) = 1
  term_size (name x) = 1
  term_size (plus t u) = 1 + (term_size t + term_size u)
  term_size (minus t u) = 1 + (term_size t + term_size u)
  term_size (times t u) = 1 + (term_size t + term_size u)
  term_size (divided t u) = 1 + (term_size t + term_size u)
  term_size (remainder t u) = 1 + (term_size t + term_size u)
  term_size (read a i) = 1 + (array_size a + term_size i)
  term_size (truth f) = 1 + form_size f

  pub array_size : ArrayTree → ℕ
  array_size (array x) = 1
  array_size (stored a i t) = 1 + (array_size a + (term_size i + term_size t))

  pub form_size : FormTree → ℕ
  form_size always = 1
  form_size never = 1
  form_size (at_most t u) = 1 + (term_size t + term_size u)
  form_size (equal t u) = 1 + (term_size t + term_size u)
  form_size (denied f) = 1 + form_size f
  form_size (both f g) = 1 + (form_size f + form_size g)
  form_size (either f g) = 1 + (form_size f + form_size g)

-- a node, with the size of the part that ends in it
abbrev pub node : NodeKind → ℕ → Node
node k n = record { kind = k; size = n }

abbrev mutual
  pub term_nodes : TermTree → List Node
  term_nodes (number z) = node (kind.Num z) 1 ∷ []
  term_nodes (name x) = node (kind.Of x) 1 ∷ []
  term_nodes (plus t u) = term_nodes t ++ (term_nodes u ++ (node kind.Add (1 + (term_size t + term_size u)) ∷ []))
  term_nodes (minus t u) = term_nodes t ++ (term_nodes u ++ (node kind.Sub (1 + (term_size t + term_size u)) ∷ []))
  term_nodes (times t u) = term_nodes t ++ (term_nodes u ++ (node kind.Mul (1 + (term_size t + term_size u)) ∷ []))
  term_nodes (divided t u) = term_nodes t ++ (term_nodes u ++ (node kind.Div (1 + (term_size t + term_size u)) ∷ []))
  term_nodes (remainder t u) = term_nodes t ++ (term_nodes u ++ (node kind.Rem (1 + (term_size t + term_size u)) ∷ []))
  term_nodes (read a i) = array_nodes a ++ (term_nodes i ++ (node kind.Read (1 + (array_size a + term_size i)) ∷ []))
  term_nodes (truth f) = form_nodes f ++ (node kind.Truth (1 + form_size f) ∷ [])

  pub array_nodes : ArrayTree → List Node
  array_nodes (array x) = node (kind.Base x) 1 ∷ []
  array_nodes (stored a i t) = array_nodes a ++ (term_nodes i ++ (term_nodes t ++ (node kind.Store (1 + (array_size a + (term_size i + term_size t))) ∷ [])))

  pub form_nodes : FormTree → List Node
  form_nodes always = node kind.True 1 ∷ []
  form_nodes never = node kind.False 1 ∷ []
  form_nodes (at_most t u) = term_nodes t ++ (term_nodes u ++ (node kind.Le (1 + (term_size t + term_size u)) ∷ []))
  form_nodes (equal t u) = term_nodes t ++ (term_nodes u ++ (node kind.Eq (1 + (term_size t + term_size u)) ∷ []))
  form_nodes (denied f) = form_nodes f ++ (node kind.Not (1 + form_size f) ∷ [])
  form_nodes (both f g) = form_nodes f ++ (form_nodes g ++ (node kind.And (1 + (form_size f + form_size g)) ∷ []))
  form_nodes (either f g) = form_nodes f ++ (form_nodes g ++ (node kind.Or (1 + (form_size f + form_size g)) ∷ []))

-- ---- back from nodes

-- a term, an array or a form
pub data Piece : Type 0 where
  a_term : TermTree → Piece
  an_array : ArrayTree → Piece
  a_form : FormTree → Piece

-- The pieces that stand behind a node, where `pieces` stood before it, the last first. A node whose operands
-- aren't there leaves nothing.
abbrev pub behind_node : NodeKind → List Piece → List Piece
behind_node (kind.Num z) pieces = a_term (number z) ∷ pieces
behind_node (kind.Of x) pieces = a_term (name x) ∷ pieces
behind_node kind.Add (a_term u ∷ a_term t ∷ pieces) = a_term (plus t u) ∷ pieces
behind_node kind.Sub (a_term u ∷ a_term t ∷ pieces) = a_term (minus t u) ∷ pieces
behind_node kind.Mul (a_term u ∷ a_term t ∷ pieces) = a_term (times t u) ∷ pieces
behind_node kind.Div (a_term u ∷ a_term t ∷ pieces) = a_term (divided t u) ∷ pieces
behind_node kind.Rem (a_term u ∷ a_term t ∷ pieces) = a_term (remainder t u) ∷ pieces
behind_node kind.Read (a_term i ∷ an_array a ∷ pieces) = a_term (read a i) ∷ pieces
behind_node kind.Truth (a_form f ∷ pieces) = a_term (truth f) ∷ pieces
behind_node (kind.Base x) pieces = an_array (array x) ∷ pieces
behind_node kind.Store (a_term t ∷ a_term i ∷ an_array a ∷ pieces) = an_array (stored a i t) ∷ pieces
behind_node kind.True pieces = a_form always ∷ pieces
behind_node kind.False pieces = a_form never ∷ pieces
behind_node kind.Le (a_term u ∷ a_term t ∷ pieces) = a_form (at_most t u) ∷ pieces
behind_node kind.Eq (a_term u ∷ a_term t ∷ pieces) = a_form (equal t u) ∷ pieces
behind_node kind.Not (a_form f ∷ pieces) = a_form (denied f) ∷ pieces
behind_node kind.And (a_form g ∷ a_form f ∷ pieces) = a_form (both f g) ∷ pieces
behind_node kind.Or (a_form g ∷ a_form f ∷ pieces) = a_form (either f g) ∷ pieces
behind_node k pieces = []

abbrev pub behind_nodes : List Piece → List Node → List Piece
behind_nodes pieces [] = pieces
behind_nodes pieces (n ∷ ns) = behind_nodes (behind_node n.kind pieces) ns

abbrev pub first_term : List Piece → TermTree
first_term (a_term t ∷ pieces) = t
first_term pieces = number (pos 0)

abbrev pub first_array : List Piece → ArrayTree
first_array (an_array a ∷ pieces) = a
first_array pieces = array (record { base = []; count = 0 })

abbrev pub first_form : List Piece → FormTree
first_form (a_form f ∷ pieces) = f
first_form pieces = never

-- the term, array or form of the nodes
abbrev pub term_in : List Node → TermTree
term_in nodes = first_term (behind_nodes [] nodes)

abbrev pub array_in : List Node → ArrayTree
array_in nodes = first_array (behind_nodes [] nodes)

abbrev pub form_in : List Node → FormTree
form_in nodes = first_form (behind_nodes [] nodes)
