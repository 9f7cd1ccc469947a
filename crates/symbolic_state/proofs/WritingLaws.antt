-- One name on the way through the nodes of a formula.
use Rattle.std.proofs.Common.{◌≡◌, ℕ, List, [], ◌∷◌, ◌++◌, sym, ap, ◌∙◌}
use Rattle.terms.specs.declared.sym.Sym.{Sym}
use Rattle.terms.specs.declared.node.Node.{Node}
use Rattle.terms.specs.declared.node.NodeKind.TheVariants as kind
use Rattle.terms.specs.Trees.{TermTree, name, ArrayTree, array}
use Rattle.terms.specs.Nodes.{node, term_nodes, array_nodes}
use Rattle.terms.specs.Replacing.{Change, replaced_term, replaced_array}
use Rattle.terms.specs.Code.Rewriting.{put_node, put_nodes}
use Rattle.terms.proofs.RewritingLaws.{term_put, array_put}
use Rattle.symbolic_state.specs.Code.Writing.{written}

module _ (c : Change) (out : List Node) (x : Sym) (n : ℕ) (rest : List Node) (frames : List (Change × List Node)) where
  -- a name that stands for itself is written
  pub number_stays : c.number x ≡ name x → written out ((c, node (kind.Of x) n ∷ rest) ∷ frames) ≡ written (out ++ (node (kind.Of x) 1 ∷ [])) ((c, rest) ∷ frames)
  unfolding put_node
  number_stays e = ap (λ t. written (put_nodes c (out ++ term_nodes t) rest) frames) e

  pub array_stays : c.array x ≡ array x → written out ((c, node (kind.Base x) n ∷ rest) ∷ frames) ≡ written (out ++ (node (kind.Base x) 1 ∷ [])) ((c, rest) ∷ frames)
  unfolding put_node
  array_stays e = ap (λ a. written (put_nodes c (out ++ array_nodes a) rest) frames) e

  -- what a name stands for is written next
  pub into_number : (d : Change) (t : TermTree) → c.number x ≡ replaced_term d t
      → written out ((c, node (kind.Of x) n ∷ rest) ∷ frames) ≡ written out ((d, term_nodes t) ∷ ((c, rest) ∷ frames))
  unfolding put_node
  into_number d t e = ap (λ u. written (put_nodes c (out ++ term_nodes u) rest) frames) e
      ∙ sym (ap (λ ns. written (put_nodes c ns rest) frames) (term_put d out t))

  pub into_array : (d : Change) (a : ArrayTree) → c.array x ≡ replaced_array d a
      → written out ((c, node (kind.Base x) n ∷ rest) ∷ frames) ≡ written out ((d, array_nodes a) ∷ ((c, rest) ∷ frames))
  unfolding put_node
  into_array d a e = ap (λ b. written (put_nodes c (out ++ array_nodes b) rest) frames) e
      ∙ sym (ap (λ ns. written (put_nodes c ns rest) frames) (array_put d out a))
