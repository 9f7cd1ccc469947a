-- An operator that is put behind its operands makes the formula of them.
use Rattle.std.proofs.Common.{◌≡◌, ◌∙◌, ℕ, ◌+◌, List, [], ◌∷◌, ◌++◌, ap, ap₂, append_assoc, refl}
use Rattle.terms.specs.declared.node.Node.{Node}
use Rattle.terms.specs.declared.node.NodeKind.{NodeKind}
use Rattle.terms.specs.declared.node.NodeKind.TheVariants as kind
use Rattle.terms.specs.Trees.{TermTree, plus, minus, times, divided, remainder, read, truth, ArrayTree, stored, FormTree, at_most, equal, denied, both, either}
use Rattle.terms.specs.Nodes.{node, term_size, array_size, form_size, term_nodes, array_nodes, form_nodes}
use Rattle.terms.specs.Code.Operands.{end_size, before_last}
use Rattle.terms.specs.Code.Rewriting.{operands_size, put_operator}
use Rattle.terms.proofs.OperandLaws.{last_term, last_array, last_form, term_end, array_end, form_end}

module _ (done : List Node) (k : NodeKind) where
  put_one : (ms : List Node) (n : ℕ) → ((xs : List Node) → operands_size k xs ≡ end_size xs) → end_size (done ++ ms) ≡ n
      → put_operator (done ++ ms) k ≡ done ++ (ms ++ (node k (1 + n) ∷ []))
  unfolding put_operator
  put_one ms n is size = ap (λ z. (done ++ ms) ++ (node k (1 + z) ∷ [])) (is (done ++ ms) ∙ size) ∙ append_assoc done ms (node k (1 + n) ∷ [])

  put_two : (ms ns : List Node) (m n : ℕ) → ((xs : List Node) → operands_size k xs ≡ end_size (before_last xs) + end_size xs)
      → end_size (done ++ ms) ≡ m → before_last ((done ++ ms) ++ ns) ≡ done ++ ms → end_size ((done ++ ms) ++ ns) ≡ n
      → put_operator ((done ++ ms) ++ ns) k ≡ done ++ (ms ++ (ns ++ (node k (1 + (m + n)) ∷ [])))
  unfolding put_operator
  put_two ms ns m n is first before last =
      ap (λ z. ((done ++ ms) ++ ns) ++ (node k (1 + z) ∷ [])) (is ((done ++ ms) ++ ns) ∙ ap₂ (λ x y. x + y) (ap end_size before ∙ first) last)
      ∙ append_assoc (done ++ ms) ns (node k (1 + (m + n)) ∷ []) ∙ append_assoc done ms (ns ++ (node k (1 + (m + n)) ∷ []))

pub put_plus : (done : List Node) (t : TermTree) (u : TermTree) → put_operator ((done ++ term_nodes t) ++ term_nodes u) kind.Add ≡ done ++ term_nodes (plus t u)
unfolding operands_size
put_plus done t u = put_two done kind.Add (term_nodes t) (term_nodes u) (term_size t) (term_size u) (λ xs. refl)
    (term_end done t) (last_term (done ++ term_nodes t) u).0 (term_end (done ++ term_nodes t) u)

pub put_minus : (done : List Node) (t : TermTree) (u : TermTree) → put_operator ((done ++ term_nodes t) ++ term_nodes u) kind.Sub ≡ done ++ term_nodes (minus t u)
unfolding operands_size
put_minus done t u = put_two done kind.Sub (term_nodes t) (term_nodes u) (term_size t) (term_size u) (λ xs. refl)
    (term_end done t) (last_term (done ++ term_nodes t) u).0 (term_end (done ++ term_nodes t) u)

pub put_times : (done : List Node) (t : TermTree) (u : TermTree) → put_operator ((done ++ term_nodes t) ++ term_nodes u) kind.Mul ≡ done ++ term_nodes (times t u)
unfolding operands_size
put_times done t u = put_two done kind.Mul (term_nodes t) (term_nodes u) (term_size t) (term_size u) (λ xs. refl)
    (term_end done t) (last_term (done ++ term_nodes t) u).0 (term_end (done ++ term_nodes t) u)

pub put_divided : (done : List Node) (t : TermTree) (u : TermTree) → put_operator ((done ++ term_nodes t) ++ term_nodes u) kind.Div ≡ done ++ term_nodes (divided t u)
unfolding operands_size
put_divided done t u = put_two done kind.Div (term_nodes t) (term_nodes u) (term_size t) (term_size u) (λ xs. refl)
    (term_end done t) (last_term (done ++ term_nodes t) u).0 (term_end (done ++ term_nodes t) u)

pub put_remainder : (done : List Node) (t : TermTree) (u : TermTree) → put_operator ((done ++ term_nodes t) ++ term_nodes u) kind.Rem ≡ done ++ term_nodes (remainder t u)
unfolding operands_size
put_remainder done t u = put_two done kind.Rem (term_nodes t) (term_nodes u) (term_size t) (term_size u) (λ xs. refl)
    (term_end done t) (last_term (done ++ term_nodes t) u).0 (term_end (done ++ term_nodes t) u)

pub put_read : (done : List Node) (a : ArrayTree) (i : TermTree) → put_operator ((done ++ array_nodes a) ++ term_nodes i) kind.Read ≡ done ++ term_nodes (read a i)
unfolding operands_size
put_read done a i = put_two done kind.Read (array_nodes a) (term_nodes i) (array_size a) (term_size i) (λ xs. refl)
    (array_end done a) (last_term (done ++ array_nodes a) i).0 (term_end (done ++ array_nodes a) i)

pub put_at_most : (done : List Node) (t : TermTree) (u : TermTree) → put_operator ((done ++ term_nodes t) ++ term_nodes u) kind.Le ≡ done ++ form_nodes (at_most t u)
unfolding operands_size
put_at_most done t u = put_two done kind.Le (term_nodes t) (term_nodes u) (term_size t) (term_size u) (λ xs. refl)
    (term_end done t) (last_term (done ++ term_nodes t) u).0 (term_end (done ++ term_nodes t) u)

pub put_equal : (done : List Node) (t : TermTree) (u : TermTree) → put_operator ((done ++ term_nodes t) ++ term_nodes u) kind.Eq ≡ done ++ form_nodes (equal t u)
unfolding operands_size
put_equal done t u = put_two done kind.Eq (term_nodes t) (term_nodes u) (term_size t) (term_size u) (λ xs. refl)
    (term_end done t) (last_term (done ++ term_nodes t) u).0 (term_end (done ++ term_nodes t) u)

pub put_both : (done : List Node) (f : FormTree) (g : FormTree) → put_operator ((done ++ form_nodes f) ++ form_nodes g) kind.And ≡ done ++ form_nodes (both f g)
unfolding operands_size
put_both done f g = put_two done kind.And (form_nodes f) (form_nodes g) (form_size f) (form_size g) (λ xs. refl)
    (form_end done f) (last_form (done ++ form_nodes f) g).0 (form_end (done ++ form_nodes f) g)

pub put_either : (done : List Node) (f : FormTree) (g : FormTree) → put_operator ((done ++ form_nodes f) ++ form_nodes g) kind.Or ≡ done ++ form_nodes (either f g)
unfolding operands_size
put_either done f g = put_two done kind.Or (form_nodes f) (form_nodes g) (form_size f) (form_size g) (λ xs. refl)
    (form_end done f) (last_form (done ++ form_nodes f) g).0 (form_end (done ++ form_nodes f) g)

pub put_truth : (done : List Node) (f : FormTree) → put_operator (done ++ form_nodes f) kind.Truth ≡ done ++ term_nodes (truth f)
unfolding operands_size
put_truth done f = put_one done kind.Truth (form_nodes f) (form_size f) (λ xs. refl) (form_end done f)

pub put_denied : (done : List Node) (f : FormTree) → put_operator (done ++ form_nodes f) kind.Not ≡ done ++ form_nodes (denied f)
unfolding operands_size
put_denied done f = put_one done kind.Not (form_nodes f) (form_size f) (λ xs. refl) (form_end done f)

pub put_stored : (done : List Node) (a : ArrayTree) (i t : TermTree) → put_operator (((done ++ array_nodes a) ++ term_nodes i) ++ term_nodes t) kind.Store ≡ done ++ array_nodes (stored a i t)
unfolding operands_size put_operator
put_stored done a i t =
    let front : List Node = done ++ array_nodes a in
    let middle : List Node = front ++ term_nodes i in
    let n : ℕ = array_size a + (term_size i + term_size t) in
    let end : List Node = node kind.Store (1 + n) ∷ [] in
    let back : before_last (middle ++ term_nodes t) ≡ middle = (last_term middle t).0 in
    let behind : before_last (before_last (middle ++ term_nodes t)) ≡ front = ap before_last back ∙ (last_term front i).0 in
    ap (λ z. (middle ++ term_nodes t) ++ (node kind.Store (1 + z) ∷ []))
    (ap₂ (λ x y. x + y) (ap end_size behind ∙ array_end done a) (ap₂ (λ x y. x + y) (ap end_size back ∙ term_end front i) (term_end middle t)))
    ∙ append_assoc middle (term_nodes t) end ∙ append_assoc front (term_nodes i) (term_nodes t ++ end) ∙ append_assoc done (array_nodes a) (term_nodes i ++ (term_nodes t ++ end))
