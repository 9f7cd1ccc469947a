-- A formula is that of its nodes.
use Rattle.std.proofs.Common.{◌≡◌, ◌+◌, List, [], ◌∷◌, ◌++◌, refl, ap, ◌∙◌}
use Rattle.terms.specs.declared.node.Node.{Node}
use Rattle.terms.specs.declared.node.NodeKind.TheVariants as kind
use Rattle.terms.specs.Trees.{TermTree, number, name, plus, minus, times, divided, remainder, read, truth, ArrayTree, array, stored, FormTree, always, never, at_most, equal, denied, both, either}
use Rattle.terms.specs.Nodes.{node, term_size, array_size, term_nodes, array_nodes, form_nodes, term_in, array_in, form_in, first_term, first_array, first_form, Piece, a_term, an_array, a_form, behind_node, behind_nodes}

pub behind_nodes-append : (pieces : List Piece) (ms ns : List Node) → behind_nodes pieces (ms ++ ns) ≡ behind_nodes (behind_nodes pieces ms) ns
behind_nodes-append pieces [] ns = refl
behind_nodes-append pieces (m ∷ ms) ns = behind_nodes-append (behind_node m.kind pieces) ms ns

-- what stands behind one operand and its operator, and behind two
one : (pieces : List Piece) (ms ns : List Node) (p : Piece) → behind_nodes pieces ms ≡ p ∷ pieces → behind_nodes pieces (ms ++ ns) ≡ behind_nodes (p ∷ pieces) ns
one pieces ms ns p h = behind_nodes-append pieces ms ns ∙ ap (λ s. behind_nodes s ns) h

two : (pieces : List Piece) (ks ms ns : List Node) (p q : Piece) → behind_nodes pieces ks ≡ p ∷ pieces → behind_nodes (p ∷ pieces) ms ≡ q ∷ p ∷ pieces
    → behind_nodes pieces (ks ++ (ms ++ ns)) ≡ behind_nodes (q ∷ p ∷ pieces) ns
two pieces ks ms ns p q h k = one pieces ks (ms ++ ns) p h ∙ one (p ∷ pieces) ms ns q k

mutual
  pub behind_term : (pieces : List Piece) (t : TermTree) → behind_nodes pieces (term_nodes t) ≡ a_term t ∷ pieces
  behind_term pieces (number z) = refl
  behind_term pieces (name x) = refl
  behind_term pieces (plus t u) = two pieces (term_nodes t) (term_nodes u) _ (a_term t) (a_term u) (behind_term pieces t) (behind_term (a_term t ∷ pieces) u)
  behind_term pieces (minus t u) = two pieces (term_nodes t) (term_nodes u) _ (a_term t) (a_term u) (behind_term pieces t) (behind_term (a_term t ∷ pieces) u)
  behind_term pieces (times t u) = two pieces (term_nodes t) (term_nodes u) _ (a_term t) (a_term u) (behind_term pieces t) (behind_term (a_term t ∷ pieces) u)
  behind_term pieces (divided t u) = two pieces (term_nodes t) (term_nodes u) _ (a_term t) (a_term u) (behind_term pieces t) (behind_term (a_term t ∷ pieces) u)
  behind_term pieces (remainder t u) = two pieces (term_nodes t) (term_nodes u) _ (a_term t) (a_term u) (behind_term pieces t) (behind_term (a_term t ∷ pieces) u)
  behind_term pieces (read a i) = two pieces (array_nodes a) (term_nodes i) _ (an_array a) (a_term i) (behind_array pieces a) (behind_term (an_array a ∷ pieces) i)
  behind_term pieces (truth f) = one pieces (form_nodes f) _ (a_form f) (behind_form pieces f)

  pub behind_array : (pieces : List Piece) (a : ArrayTree) → behind_nodes pieces (array_nodes a) ≡ an_array a ∷ pieces
  behind_array pieces (array x) = refl
  behind_array pieces (stored a i t) =
      let end : List Node = node kind.Store (1 + (array_size a + (term_size i + term_size t))) ∷ [] in
      one pieces (array_nodes a) (term_nodes i ++ (term_nodes t ++ end)) (an_array a) (behind_array pieces a)
      ∙ two (an_array a ∷ pieces) (term_nodes i) (term_nodes t) end (a_term i) (a_term t) (behind_term (an_array a ∷ pieces) i) (behind_term (a_term i ∷ an_array a ∷ pieces) t)

  pub behind_form : (pieces : List Piece) (f : FormTree) → behind_nodes pieces (form_nodes f) ≡ a_form f ∷ pieces
  behind_form pieces always = refl
  behind_form pieces never = refl
  behind_form pieces (at_most t u) = two pieces (term_nodes t) (term_nodes u) _ (a_term t) (a_term u) (behind_term pieces t) (behind_term (a_term t ∷ pieces) u)
  behind_form pieces (equal t u) = two pieces (term_nodes t) (term_nodes u) _ (a_term t) (a_term u) (behind_term pieces t) (behind_term (a_term t ∷ pieces) u)
  behind_form pieces (denied f) = one pieces (form_nodes f) _ (a_form f) (behind_form pieces f)
  behind_form pieces (both f g) = two pieces (form_nodes f) (form_nodes g) _ (a_form f) (a_form g) (behind_form pieces f) (behind_form (a_form f ∷ pieces) g)
  behind_form pieces (either f g) = two pieces (form_nodes f) (form_nodes g) _ (a_form f) (a_form g) (behind_form pieces f) (behind_form (a_form f ∷ pieces) g)

pub term_in-nodes : (t : TermTree) → term_in (term_nodes t) ≡ t
term_in-nodes t = ap first_term (behind_term [] t)

pub array_in-nodes : (a : ArrayTree) → array_in (array_nodes a) ≡ a
array_in-nodes a = ap first_array (behind_array [] a)

pub form_in-nodes : (f : FormTree) → form_in (form_nodes f) ≡ f
form_in-nodes f = ap first_form (behind_form [] f)
