-- A formula as its outermost operator's parts, in order, and that operator.
use Rattle.std.specs.Prelude.{List, [], ◌∷◌}
use Rattle.terms.specs.declared.node.Node.{Node}
use Rattle.terms.specs.declared.node.NodeKind.TheVariants as kind
use Rattle.terms.specs.Trees.{TermTree, number, name, plus, minus, times, divided, remainder, read, truth, ArrayTree, array, stored, FormTree, always, never, at_most, equal, denied, both, either}
use Rattle.terms.specs.Nodes.{term_nodes, array_nodes, form_nodes}
use Rattle.cert_checker.specs.declared.part.Part.{Part}
use Rattle.cert_checker.specs.declared.part.Part.TheVariants as part

abbrev pub opened_term : TermTree → List Part
opened_term (number z) = []
opened_term (name x) = []
opened_term (plus t u) = part.Term t ∷ (part.Term u ∷ (part.Operator kind.Add ∷ []))
opened_term (minus t u) = part.Term t ∷ (part.Term u ∷ (part.Operator kind.Sub ∷ []))
opened_term (times t u) = part.Term t ∷ (part.Term u ∷ (part.Operator kind.Mul ∷ []))
opened_term (divided t u) = part.Term t ∷ (part.Term u ∷ (part.Operator kind.Div ∷ []))
opened_term (remainder t u) = part.Term t ∷ (part.Term u ∷ (part.Operator kind.Rem ∷ []))
opened_term (read a i) = part.Array a ∷ (part.Term i ∷ (part.Operator kind.Read ∷ []))
opened_term (truth f) = part.Form f ∷ (part.Operator kind.Truth ∷ [])

abbrev pub opened_array : ArrayTree → List Part
opened_array (array x) = []
opened_array (stored a i t) = part.Array a ∷ (part.Term i ∷ (part.Term t ∷ (part.Operator kind.Store ∷ [])))

abbrev pub opened_form : FormTree → List Part
opened_form always = []
opened_form never = []
opened_form (at_most t u) = part.Term t ∷ (part.Term u ∷ (part.Operator kind.Le ∷ []))
opened_form (equal t u) = part.Term t ∷ (part.Term u ∷ (part.Operator kind.Eq ∷ []))
opened_form (both f g) = part.Form f ∷ (part.Form g ∷ (part.Operator kind.And ∷ []))
opened_form (either f g) = part.Form f ∷ (part.Form g ∷ (part.Operator kind.Or ∷ []))
opened_form (denied f) = part.Form f ∷ (part.Operator kind.Not ∷ [])

-- the nodes of a formula that has no parts
abbrev pub leaf_of_term : TermTree → List Node
leaf_of_term (number z) = term_nodes (number z)
leaf_of_term (name x) = term_nodes (name x)
leaf_of_term t = []

abbrev pub leaf_of_array : ArrayTree → List Node
leaf_of_array (array x) = array_nodes (array x)
leaf_of_array a = []

abbrev pub leaf_of_form : FormTree → List Node
leaf_of_form always = form_nodes always
leaf_of_form never = form_nodes never
leaf_of_form f = []
