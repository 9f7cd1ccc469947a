-- What is made node by node is the formula in which names are replaced.
use Rattle.std.proofs.Common.{◌≡◌, ℕ, ◌+◌, List, [], ◌∷◌, ◌++◌, refl, ap, ap₂, ◌∙◌, append_assoc}
use Rattle.terms.specs.declared.node.Node.{Node}
use Rattle.terms.specs.declared.node.NodeKind.{NodeKind}
use Rattle.terms.specs.declared.node.NodeKind.TheVariants as kind
use Rattle.terms.specs.Trees.{TermTree, number, name, plus, minus, times, divided, remainder, read, truth, ArrayTree, array, stored, FormTree, always, never, at_most, equal, denied, both, either}
use Rattle.terms.specs.Nodes.{node, term_size, array_size, form_size, term_nodes, array_nodes, form_nodes, term_in, array_in, form_in}
use Rattle.terms.specs.Replacing.{Change, replaced_term, replaced_array, replaced_form}
use Rattle.terms.specs.Code.Operands.{end_size, before_last, IsTerm, IsArray, IsForm}
use Rattle.terms.specs.Code.Rewriting.{operands_size, put_operator, put_node, put_nodes}
use Rattle.terms.proofs.OperandLaws.{is_term, is_array, is_form, last_term, last_form, term_end, array_end, form_end}

module _ (c : Change) where
  pub put_nodes-append : (done ms ns : List Node) → put_nodes c done (ms ++ ns) ≡ put_nodes c (put_nodes c done ms) ns
  put_nodes-append done [] ns = refl
  put_nodes-append done (m ∷ ms) ns = put_nodes-append (put_node c done m.kind) ms ns

  -- behind an operand
  one : (done ms ns rs : List Node) → put_nodes c done ms ≡ done ++ rs → put_nodes c done (ms ++ ns) ≡ put_nodes c (done ++ rs) ns
  one done ms ns rs h = put_nodes-append done ms ns ∙ ap (λ ds. put_nodes c ds ns) h

  -- an operator of one operand, of two, of three
  unary : (done ms rs : List Node) (k : NodeKind) (s n : ℕ) → ((xs : List Node) → put_node c xs k ≡ xs ++ (node k (1 + end_size xs) ∷ []))
      → put_nodes c done ms ≡ done ++ rs → end_size (done ++ rs) ≡ n
      → put_nodes c done (ms ++ (node k s ∷ [])) ≡ done ++ (rs ++ (node k (1 + n) ∷ []))
  unary done ms rs k s n is h size =
      one done ms (node k s ∷ []) rs h ∙ is (done ++ rs) ∙ ap (λ m. (done ++ rs) ++ (node k (1 + m) ∷ [])) size ∙ append_assoc done rs (node k (1 + n) ∷ [])

  binary : (done ms ns rs ss : List Node) (k : NodeKind) (s m n : ℕ)
      → ((xs : List Node) → put_node c xs k ≡ xs ++ (node k (1 + (end_size (before_last xs) + end_size xs)) ∷ []))
      → put_nodes c done ms ≡ done ++ rs → put_nodes c (done ++ rs) ns ≡ (done ++ rs) ++ ss
      → end_size (done ++ rs) ≡ m → (before_last ((done ++ rs) ++ ss) ≡ done ++ rs) → end_size ((done ++ rs) ++ ss) ≡ n
      → put_nodes c done (ms ++ (ns ++ (node k s ∷ []))) ≡ done ++ (rs ++ (ss ++ (node k (1 + (m + n)) ∷ [])))
  binary done ms ns rs ss k s m n is h j size before last =
      let end : List Node = node k (1 + (m + n)) ∷ [] in
      one done ms (ns ++ (node k s ∷ [])) rs h
      ∙ one (done ++ rs) ns (node k s ∷ []) ss j
      ∙ is ((done ++ rs) ++ ss)
      ∙ ap (λ z. ((done ++ rs) ++ ss) ++ (node k (1 + z) ∷ [])) (ap₂ (λ x y. x + y) (ap end_size before ∙ size) last)
      ∙ append_assoc (done ++ rs) ss end ∙ append_assoc done rs (ss ++ end)

  ternary : (done ls ms ns qs rs ss : List Node) (k : NodeKind) (s l m n : ℕ)
      → ((xs : List Node) → put_node c xs k ≡ xs ++ (node k (1 + (end_size (before_last (before_last xs)) + (end_size (before_last xs) + end_size xs))) ∷ []))
      → put_nodes c done ls ≡ done ++ qs → put_nodes c (done ++ qs) ms ≡ (done ++ qs) ++ rs → put_nodes c ((done ++ qs) ++ rs) ns ≡ ((done ++ qs) ++ rs) ++ ss
      → end_size (done ++ qs) ≡ l → (before_last ((done ++ qs) ++ rs) ≡ done ++ qs) → end_size ((done ++ qs) ++ rs) ≡ m
      → (before_last (((done ++ qs) ++ rs) ++ ss) ≡ (done ++ qs) ++ rs) → end_size (((done ++ qs) ++ rs) ++ ss) ≡ n
      → put_nodes c done (ls ++ (ms ++ (ns ++ (node k s ∷ [])))) ≡ done ++ (qs ++ (rs ++ (ss ++ (node k (1 + (l + (m + n))) ∷ []))))
  ternary done ls ms ns qs rs ss k s l m n is h i j first before second front third =
      let end : List Node = node k (1 + (l + (m + n))) ∷ [] in
      let back : before_last (before_last (((done ++ qs) ++ rs) ++ ss)) ≡ done ++ qs = ap before_last front ∙ before in
      one done ls (ms ++ (ns ++ (node k s ∷ []))) qs h
      ∙ one (done ++ qs) ms (ns ++ (node k s ∷ [])) rs i
      ∙ one ((done ++ qs) ++ rs) ns (node k s ∷ []) ss j
      ∙ is (((done ++ qs) ++ rs) ++ ss)
      ∙ ap (λ z. (((done ++ qs) ++ rs) ++ ss) ++ (node k (1 + z) ∷ []))
      (ap₂ (λ x y. x + y) (ap end_size back ∙ first) (ap₂ (λ x y. x + y) (ap end_size front ∙ second) third))
      ∙ append_assoc ((done ++ qs) ++ rs) ss end ∙ append_assoc (done ++ qs) rs (ss ++ end) ∙ append_assoc done qs (rs ++ (ss ++ end))

  mutual
    unfolding put_node put_operator operands_size

    pub term_put : (done : List Node) (t : TermTree) → put_nodes c done (term_nodes t) ≡ done ++ term_nodes (replaced_term c t)
    term_put done (number z) = refl
    term_put done (name x) = refl
    term_put done (plus t u) = binary done (term_nodes t) (term_nodes u) (term_nodes (replaced_term c t)) (term_nodes (replaced_term c u)) kind.Add (1 + (term_size t + term_size u)) (term_size (replaced_term c t)) (term_size (replaced_term c u)) (λ xs. refl)
        (term_put done t) (term_put (done ++ term_nodes (replaced_term c t)) u) (term_end done (replaced_term c t)) (last_term (done ++ term_nodes (replaced_term c t)) (replaced_term c u)).0 (term_end (done ++ term_nodes (replaced_term c t)) (replaced_term c u))
    term_put done (minus t u) = binary done (term_nodes t) (term_nodes u) (term_nodes (replaced_term c t)) (term_nodes (replaced_term c u)) kind.Sub (1 + (term_size t + term_size u)) (term_size (replaced_term c t)) (term_size (replaced_term c u)) (λ xs. refl)
        (term_put done t) (term_put (done ++ term_nodes (replaced_term c t)) u) (term_end done (replaced_term c t)) (last_term (done ++ term_nodes (replaced_term c t)) (replaced_term c u)).0 (term_end (done ++ term_nodes (replaced_term c t)) (replaced_term c u))
    term_put done (times t u) = binary done (term_nodes t) (term_nodes u) (term_nodes (replaced_term c t)) (term_nodes (replaced_term c u)) kind.Mul (1 + (term_size t + term_size u)) (term_size (replaced_term c t)) (term_size (replaced_term c u)) (λ xs. refl)
        (term_put done t) (term_put (done ++ term_nodes (replaced_term c t)) u) (term_end done (replaced_term c t)) (last_term (done ++ term_nodes (replaced_term c t)) (replaced_term c u)).0 (term_end (done ++ term_nodes (replaced_term c t)) (replaced_term c u))
    term_put done (divided t u) = binary done (term_nodes t) (term_nodes u) (term_nodes (replaced_term c t)) (term_nodes (replaced_term c u)) kind.Div (1 + (term_size t + term_size u)) (term_size (replaced_term c t)) (term_size (replaced_term c u)) (λ xs. refl)
        (term_put done t) (term_put (done ++ term_nodes (replaced_term c t)) u) (term_end done (replaced_term c t)) (last_term (done ++ term_nodes (replaced_term c t)) (replaced_term c u)).0 (term_end (done ++ term_nodes (replaced_term c t)) (replaced_term c u))
    term_put done (remainder t u) = binary done (term_nodes t) (term_nodes u) (term_nodes (replaced_term c t)) (term_nodes (replaced_term c u)) kind.Rem (1 + (term_size t + term_size u)) (term_size (replaced_term c t)) (term_size (replaced_term c u)) (λ xs. refl)
        (term_put done t) (term_put (done ++ term_nodes (replaced_term c t)) u) (term_end done (replaced_term c t)) (last_term (done ++ term_nodes (replaced_term c t)) (replaced_term c u)).0 (term_end (done ++ term_nodes (replaced_term c t)) (replaced_term c u))
    term_put done (read a i) = binary done (array_nodes a) (term_nodes i) (array_nodes (replaced_array c a)) (term_nodes (replaced_term c i)) kind.Read (1 + (array_size a + term_size i)) (array_size (replaced_array c a)) (term_size (replaced_term c i)) (λ xs. refl)
        (array_put done a) (term_put (done ++ array_nodes (replaced_array c a)) i) (array_end done (replaced_array c a)) (last_term (done ++ array_nodes (replaced_array c a)) (replaced_term c i)).0 (term_end (done ++ array_nodes (replaced_array c a)) (replaced_term c i))
    term_put done (truth f) = unary done (form_nodes f) (form_nodes (replaced_form c f)) kind.Truth (1 + form_size f) (form_size (replaced_form c f)) (λ xs. refl) (form_put done f) (form_end done (replaced_form c f))

    pub array_put : (done : List Node) (a : ArrayTree) → put_nodes c done (array_nodes a) ≡ done ++ array_nodes (replaced_array c a)
    array_put done (array x) = refl
    array_put done (stored a i t) =
        let front = done ++ array_nodes (replaced_array c a) in
        let middle = front ++ term_nodes (replaced_term c i) in
        ternary done (array_nodes a) (term_nodes i) (term_nodes t) (array_nodes (replaced_array c a)) (term_nodes (replaced_term c i)) (term_nodes (replaced_term c t))
        kind.Store (1 + (array_size a + (term_size i + term_size t))) (array_size (replaced_array c a)) (term_size (replaced_term c i)) (term_size (replaced_term c t)) (λ xs. refl)
        (array_put done a) (term_put front i) (term_put middle t) (array_end done (replaced_array c a))
        (last_term front (replaced_term c i)).0 (term_end front (replaced_term c i)) (last_term middle (replaced_term c t)).0 (term_end middle (replaced_term c t))

    pub form_put : (done : List Node) (f : FormTree) → put_nodes c done (form_nodes f) ≡ done ++ form_nodes (replaced_form c f)
    form_put done always = refl
    form_put done never = refl
    form_put done (at_most t u) = binary done (term_nodes t) (term_nodes u) (term_nodes (replaced_term c t)) (term_nodes (replaced_term c u)) kind.Le (1 + (term_size t + term_size u)) (term_size (replaced_term c t)) (term_size (replaced_term c u)) (λ xs. refl)
        (term_put done t) (term_put (done ++ term_nodes (replaced_term c t)) u) (term_end done (replaced_term c t)) (last_term (done ++ term_nodes (replaced_term c t)) (replaced_term c u)).0 (term_end (done ++ term_nodes (replaced_term c t)) (replaced_term c u))
    form_put done (equal t u) = binary done (term_nodes t) (term_nodes u) (term_nodes (replaced_term c t)) (term_nodes (replaced_term c u)) kind.Eq (1 + (term_size t + term_size u)) (term_size (replaced_term c t)) (term_size (replaced_term c u)) (λ xs. refl)
        (term_put done t) (term_put (done ++ term_nodes (replaced_term c t)) u) (term_end done (replaced_term c t)) (last_term (done ++ term_nodes (replaced_term c t)) (replaced_term c u)).0 (term_end (done ++ term_nodes (replaced_term c t)) (replaced_term c u))
    form_put done (denied f) = unary done (form_nodes f) (form_nodes (replaced_form c f)) kind.Not (1 + form_size f) (form_size (replaced_form c f)) (λ xs. refl) (form_put done f) (form_end done (replaced_form c f))
    form_put done (both f g) = binary done (form_nodes f) (form_nodes g) (form_nodes (replaced_form c f)) (form_nodes (replaced_form c g)) kind.And (1 + (form_size f + form_size g)) (form_size (replaced_form c f)) (form_size (replaced_form c g)) (λ xs. refl)
        (form_put done f) (form_put (done ++ form_nodes (replaced_form c f)) g) (form_end done (replaced_form c f)) (last_form (done ++ form_nodes (replaced_form c f)) (replaced_form c g)).0 (form_end (done ++ form_nodes (replaced_form c f)) (replaced_form c g))
    form_put done (either f g) = binary done (form_nodes f) (form_nodes g) (form_nodes (replaced_form c f)) (form_nodes (replaced_form c g)) kind.Or (1 + (form_size f + form_size g)) (form_size (replaced_form c f)) (form_size (replaced_form c g)) (λ xs. refl)
        (form_put done f) (form_put (done ++ form_nodes (replaced_form c f)) g) (form_end done (replaced_form c f)) (last_form (done ++ form_nodes (replaced_form c f)) (replaced_form c g)).0 (form_end (done ++ form_nodes (replaced_form c f)) (replaced_form c g))

-- ---- formulas made node by node

pub term_made : (c : Change) (t : TermTree) (nodes : List Node) → nodes ≡ put_nodes c [] (term_nodes t) → IsTerm nodes × (term_in nodes ≡ replaced_term c t)
term_made c t nodes h = is_term (replaced_term c t) nodes (h ∙ term_put c [] t)

pub array_made : (c : Change) (a : ArrayTree) (nodes : List Node) → nodes ≡ put_nodes c [] (array_nodes a) → IsArray nodes × (array_in nodes ≡ replaced_array c a)
array_made c a nodes h = is_array (replaced_array c a) nodes (h ∙ array_put c [] a)

pub form_made : (c : Change) (f : FormTree) (nodes : List Node) → nodes ≡ put_nodes c [] (form_nodes f) → IsForm nodes × (form_in nodes ≡ replaced_form c f)
form_made c f nodes h = is_form (replaced_form c f) nodes (h ∙ form_put c [] f)
