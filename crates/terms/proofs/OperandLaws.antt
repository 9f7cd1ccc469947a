-- What the operands of a formula are.
use Rattle.std.proofs.Common.{◌≡◌, ℕ, ◌+◌, ◌-◌, List, [], ◌∷◌, ◌++◌, length, take, drop, refl, sym, ap, ap₂, ◌∙◌, subst, append_assoc, arith}
use Rattle.std.proofs.lemmas.List.{length-append, same_from_push}
use Rattle.std.proofs.Math.Seq.{take-append_seam, drop-append_seam}
use Rattle.terms.specs.declared.node.Node.{Node}
use Rattle.terms.specs.declared.node.NodeKind.{NodeKind}
use Rattle.terms.specs.declared.node.NodeKind.TheVariants as kind
use Rattle.terms.specs.Trees.{TermTree, number, name, plus, minus, times, divided, remainder, read, truth, ArrayTree, array, stored, FormTree, always, never, at_most, equal, denied, both, either}
use Rattle.terms.specs.Nodes.{node, term_size, array_size, form_size, term_nodes, array_nodes, form_nodes, term_in, array_in, form_in}
use Rattle.terms.specs.Code.NodeLaws.{term_in-nodes, array_in-nodes, form_in-nodes}
use Rattle.terms.specs.Code.Operands.{end_size, before_last, last_part, IsTerm, IsArray, IsForm, term_of, IsTermOf, array_of, IsArrayOf, form_of, IsFormOf}

-- ---- the last node

pub end_size-last : (ns : List Node) (n : Node) → end_size (ns ++ (n ∷ [])) ≡ n.size
end_size-last [] n = refl
end_size-last (m ∷ []) n = refl
end_size-last (m ∷ (k ∷ ns)) n = end_size-last (k ∷ ns) n

-- a list of nodes that ends in a node of its own size
record Sized (ns : List Node) (n : ℕ) : Type 0 where
  front : List Node
  root : Node
  whole : ns ≡ front ++ (root ∷ [])
  size : root.size ≡ n
  count : length ns ≡ n

length-last : (ns : List Node) (n : Node) → length (ns ++ (n ∷ [])) ≡ 1 + length ns
length-last ns n = length-append ns (n ∷ []) ∙ omega (arith)

sized-one : (k : NodeKind) → Sized (node k 1 ∷ []) 1
sized-one k = record { front = []; root = node k 1; whole = refl; size = refl; count = refl }

sized : (ns : List Node) (k : NodeKind) (n : ℕ) → length ns ≡ n → Sized (ns ++ (node k (1 + n) ∷ [])) (1 + n)
sized ns k n h = record { front = ns; root = node k (1 + n); whole = refl; size = refl; count = length-last ns (node k (1 + n)) ∙ ap (λ m. 1 + m) h }

sized-two : (ms ns : List Node) (k : NodeKind) (m n : ℕ) → Sized ms m → Sized ns n → Sized (ms ++ (ns ++ (node k (1 + (m + n)) ∷ []))) (1 + (m + n))
sized-two ms ns k m n s t = subst (λ xs. Sized xs (1 + (m + n))) (append_assoc ms ns (node k (1 + (m + n)) ∷ []))
    (sized (ms ++ ns) k (m + n) (length-append ms ns ∙ ap₂ (λ a b. a + b) s.count t.count))

sized-three : (ls ms ns : List Node) (k : NodeKind) (l m n : ℕ) → Sized ls l → Sized ms m → Sized ns n
    → Sized (ls ++ (ms ++ (ns ++ (node k (1 + (l + (m + n))) ∷ [])))) (1 + (l + (m + n)))
sized-three ls ms ns k l m n r s t =
    let end : List Node = node k (1 + (l + (m + n))) ∷ [] in
    subst (λ xs. Sized xs (1 + (l + (m + n)))) (append_assoc ls (ms ++ ns) end ∙ ap (λ xs. ls ++ xs) (append_assoc ms ns end))
    (sized (ls ++ (ms ++ ns)) k (l + (m + n)) (length-append ls (ms ++ ns) ∙ ap₂ (λ a b. a + b) r.count (length-append ms ns ∙ ap₂ (λ a b. a + b) s.count t.count)))

mutual
  term_sized : (t : TermTree) → Sized (term_nodes t) (term_size t)
  term_sized (number z) = sized-one (kind.Num z)
  term_sized (name x) = sized-one (kind.Of x)
  term_sized (plus t u) = sized-two (term_nodes t) (term_nodes u) kind.Add (term_size t) (term_size u) (term_sized t) (term_sized u)
  term_sized (minus t u) = sized-two (term_nodes t) (term_nodes u) kind.Sub (term_size t) (term_size u) (term_sized t) (term_sized u)
  term_sized (times t u) = sized-two (term_nodes t) (term_nodes u) kind.Mul (term_size t) (term_size u) (term_sized t) (term_sized u)
  term_sized (divided t u) = sized-two (term_nodes t) (term_nodes u) kind.Div (term_size t) (term_size u) (term_sized t) (term_sized u)
  term_sized (remainder t u) = sized-two (term_nodes t) (term_nodes u) kind.Rem (term_size t) (term_size u) (term_sized t) (term_sized u)
  term_sized (read a i) = sized-two (array_nodes a) (term_nodes i) kind.Read (array_size a) (term_size i) (array_sized a) (term_sized i)
  term_sized (truth f) = sized (form_nodes f) kind.Truth (form_size f) (form_sized f).count

  array_sized : (a : ArrayTree) → Sized (array_nodes a) (array_size a)
  array_sized (array x) = sized-one (kind.Base x)
  array_sized (stored a i t) = sized-three (array_nodes a) (term_nodes i) (term_nodes t) kind.Store (array_size a) (term_size i) (term_size t) (array_sized a) (term_sized i) (term_sized t)

  form_sized : (f : FormTree) → Sized (form_nodes f) (form_size f)
  form_sized always = sized-one kind.True
  form_sized never = sized-one kind.False
  form_sized (at_most t u) = sized-two (term_nodes t) (term_nodes u) kind.Le (term_size t) (term_size u) (term_sized t) (term_sized u)
  form_sized (equal t u) = sized-two (term_nodes t) (term_nodes u) kind.Eq (term_size t) (term_size u) (term_sized t) (term_sized u)
  form_sized (denied f) = sized (form_nodes f) kind.Not (form_size f) (form_sized f).count
  form_sized (both f g) = sized-two (form_nodes f) (form_nodes g) kind.And (form_size f) (form_size g) (form_sized f) (form_sized g)
  form_sized (either f g) = sized-two (form_nodes f) (form_nodes g) kind.Or (form_size f) (form_size g) (form_sized f) (form_sized g)

pub term_count : (t : TermTree) → length (term_nodes t) ≡ term_size t
term_count t = (term_sized t).count

pub array_count : (a : ArrayTree) → length (array_nodes a) ≡ array_size a
array_count a = (array_sized a).count

pub form_count : (f : FormTree) → length (form_nodes f) ≡ form_size f
form_count f = (form_sized f).count

-- ---- the last part

place : (ms ns : List Node) (n : ℕ) → Sized ns n → length (ms ++ ns) - end_size (ms ++ ns) ≡ length ms
place ms ns n s =
    let last : end_size (ms ++ ns) ≡ n = ap (λ xs. end_size (ms ++ xs)) s.whole ∙ ap end_size (sym (append_assoc ms s.front (s.root ∷ []))) ∙ end_size-last (ms ++ s.front) s.root ∙ s.size in
    let all : length (ms ++ ns) ≡ length ms + n = length-append ms ns ∙ ap (λ k. length ms + k) s.count in
    ap₂ (λ a b. a - b) all last ∙ omega (arith)

last-sized : (ms ns : List Node) (n : ℕ) → Sized ns n → (before_last (ms ++ ns) ≡ ms) × (last_part (ms ++ ns) ≡ ns)
unfolding before_last last_part
last-sized ms ns n s = (ap (λ k. take k (ms ++ ns)) (place ms ns n s) ∙ take-append_seam ms ns, ap (λ k. drop k (ms ++ ns)) (place ms ns n s) ∙ drop-append_seam ms ns)

end-sized : (ms ns : List Node) (n : ℕ) → Sized ns n → end_size (ms ++ ns) ≡ n
end-sized ms ns n s = ap (λ xs. end_size (ms ++ xs)) s.whole ∙ ap end_size (sym (append_assoc ms s.front (s.root ∷ []))) ∙ end_size-last (ms ++ s.front) s.root ∙ s.size

pub term_end : (ms : List Node) (t : TermTree) → end_size (ms ++ term_nodes t) ≡ term_size t
term_end ms t = end-sized ms (term_nodes t) (term_size t) (term_sized t)

pub array_end : (ms : List Node) (a : ArrayTree) → end_size (ms ++ array_nodes a) ≡ array_size a
array_end ms a = end-sized ms (array_nodes a) (array_size a) (array_sized a)

pub form_end : (ms : List Node) (f : FormTree) → end_size (ms ++ form_nodes f) ≡ form_size f
form_end ms f = end-sized ms (form_nodes f) (form_size f) (form_sized f)

pub last_term : (ms : List Node) (t : TermTree) → (before_last (ms ++ term_nodes t) ≡ ms) × (last_part (ms ++ term_nodes t) ≡ term_nodes t)
last_term ms t = last-sized ms (term_nodes t) (term_size t) (term_sized t)

pub last_array : (ms : List Node) (a : ArrayTree) → (before_last (ms ++ array_nodes a) ≡ ms) × (last_part (ms ++ array_nodes a) ≡ array_nodes a)
last_array ms a = last-sized ms (array_nodes a) (array_size a) (array_sized a)

pub last_form : (ms : List Node) (f : FormTree) → (before_last (ms ++ form_nodes f) ≡ ms) × (last_part (ms ++ form_nodes f) ≡ form_nodes f)
last_form ms f = last-sized ms (form_nodes f) (form_size f) (form_sized f)

-- ---- nodes of a formula are one

pub is_term : (t : TermTree) (ns : List Node) → ns ≡ term_nodes t → IsTerm ns × (term_in ns ≡ t)
is_term t ns h = let same = ap term_in h ∙ term_in-nodes t in (h ∙ ap term_nodes (sym same), same)

pub is_array : (a : ArrayTree) (ns : List Node) → ns ≡ array_nodes a → IsArray ns × (array_in ns ≡ a)
is_array a ns h = let same = ap array_in h ∙ array_in-nodes a in (h ∙ ap array_nodes (sym same), same)

pub is_form : (f : FormTree) (ns : List Node) → ns ≡ form_nodes f → IsForm ns × (form_in ns ≡ f)
is_form f ns h = let same = ap form_in h ∙ form_in-nodes f in (h ∙ ap form_nodes (sym same), same)

-- ---- what a formula's operator takes

-- operands and root of nodes that end in a given node
front : (ns operands : List Node) (n root : Node) → ns ++ (n ∷ []) ≡ operands ++ (root ∷ []) → (operands ≡ ns) × (n ≡ root)
front ns operands n root h = let e = same_from_push ns operands n root h in (sym e.0, e.1)

two : (ms ns operands : List Node) (n root : Node) → ms ++ (ns ++ (n ∷ [])) ≡ operands ++ (root ∷ []) → (operands ≡ ms ++ ns) × (n ≡ root)
two ms ns operands n root h = front (ms ++ ns) operands n root (append_assoc ms ns (n ∷ []) ∙ h)

three : (ls ms ns operands : List Node) (n root : Node) → ls ++ (ms ++ (ns ++ (n ∷ []))) ≡ operands ++ (root ∷ []) → (operands ≡ (ls ++ ms) ++ ns) × (n ≡ root)
three ls ms ns operands n root h = two (ls ++ ms) ns operands n root (append_assoc ls ms (ns ++ (n ∷ [])) ∙ h)

-- the last of several operands, and those before it
term_last : (ms ns : List Node) (t : TermTree) → ns ≡ ms ++ term_nodes t → (before_last ns ≡ ms) × (IsTerm (last_part ns) × (term_in (last_part ns) ≡ t))
term_last ms ns t h =
    let parts = last_term ms t in
    let last = is_term t (last_part ns) (ap last_part h ∙ parts.1) in
    (ap before_last h ∙ parts.0, last)

form_last : (ms ns : List Node) (f : FormTree) → ns ≡ ms ++ form_nodes f → (before_last ns ≡ ms) × (IsForm (last_part ns) × (form_in (last_part ns) ≡ f))
form_last ms ns f h =
    let parts = last_form ms f in
    let last = is_form f (last_part ns) (ap last_part h ∙ parts.1) in
    (ap before_last h ∙ parts.0, last)

two_terms : (t u : TermTree) (ns : List Node) → ns ≡ term_nodes t ++ term_nodes u
    → ((IsTerm (before_last ns) × IsTerm (last_part ns)) × ((term_in (before_last ns) ≡ t) × (term_in (last_part ns) ≡ u)))
two_terms t u ns h =
    let last = term_last (term_nodes t) ns u h in
    let first = is_term t (before_last ns) last.0 in
    ((first.0, last.1.0), (first.1, last.1.1))

array_and_term : (a : ArrayTree) (i : TermTree) (ns : List Node) → ns ≡ array_nodes a ++ term_nodes i
    → ((IsArray (before_last ns) × IsTerm (last_part ns)) × ((array_in (before_last ns) ≡ a) × (term_in (last_part ns) ≡ i)))
array_and_term a i ns h =
    let last = term_last (array_nodes a) ns i h in
    let first = is_array a (before_last ns) last.0 in
    ((first.0, last.1.0), (first.1, last.1.1))

two_forms : (f g : FormTree) (ns : List Node) → ns ≡ form_nodes f ++ form_nodes g
    → ((IsForm (before_last ns) × IsForm (last_part ns)) × ((form_in (before_last ns) ≡ f) × (form_in (last_part ns) ≡ g)))
two_forms f g ns h =
    let last = form_last (form_nodes f) ns g h in
    let first = is_form f (before_last ns) last.0 in
    ((first.0, last.1.0), (first.1, last.1.1))

abbrev pub TermTaken : Node → List Node → TermTree → Type 0
TermTaken root operands t = IsTermOf root.kind operands × (term_of root.kind operands ≡ t)

abbrev pub ArrayTaken : Node → List Node → ArrayTree → Type 0
ArrayTaken root operands a = IsArrayOf root.kind operands × (array_of root.kind operands ≡ a)

abbrev pub FormTaken : Node → List Node → FormTree → Type 0
FormTaken root operands f = IsFormOf root.kind operands × (form_of root.kind operands ≡ f)

pub term_taken : (t : TermTree) (operands : List Node) (root : Node) → term_nodes t ≡ operands ++ (root ∷ []) → TermTaken root operands t
term_taken (number z) operands root h =
    let e = front [] operands (node (kind.Num z) 1) root h in subst (λ n. TermTaken n operands (number z)) e.1 (tt, refl)
term_taken (name x) operands root h =
    let e = front [] operands (node (kind.Of x) 1) root h in subst (λ n. TermTaken n operands (name x)) e.1 (tt, refl)
term_taken (plus t u) operands root h =
    let e = two (term_nodes t) (term_nodes u) operands (node kind.Add (1 + (term_size t + term_size u))) root h in
    let parts = two_terms t u operands e.0 in
    subst (λ n. TermTaken n operands (plus t u)) e.1 (parts.0, ap₂ plus parts.1.0 parts.1.1)
term_taken (minus t u) operands root h =
    let e = two (term_nodes t) (term_nodes u) operands (node kind.Sub (1 + (term_size t + term_size u))) root h in
    let parts = two_terms t u operands e.0 in
    subst (λ n. TermTaken n operands (minus t u)) e.1 (parts.0, ap₂ minus parts.1.0 parts.1.1)
term_taken (times t u) operands root h =
    let e = two (term_nodes t) (term_nodes u) operands (node kind.Mul (1 + (term_size t + term_size u))) root h in
    let parts = two_terms t u operands e.0 in
    subst (λ n. TermTaken n operands (times t u)) e.1 (parts.0, ap₂ times parts.1.0 parts.1.1)
term_taken (divided t u) operands root h =
    let e = two (term_nodes t) (term_nodes u) operands (node kind.Div (1 + (term_size t + term_size u))) root h in
    let parts = two_terms t u operands e.0 in
    subst (λ n. TermTaken n operands (divided t u)) e.1 (parts.0, ap₂ divided parts.1.0 parts.1.1)
term_taken (remainder t u) operands root h =
    let e = two (term_nodes t) (term_nodes u) operands (node kind.Rem (1 + (term_size t + term_size u))) root h in
    let parts = two_terms t u operands e.0 in
    subst (λ n. TermTaken n operands (remainder t u)) e.1 (parts.0, ap₂ remainder parts.1.0 parts.1.1)
term_taken (read a i) operands root h =
    let e = two (array_nodes a) (term_nodes i) operands (node kind.Read (1 + (array_size a + term_size i))) root h in
    let parts = array_and_term a i operands e.0 in
    subst (λ n. TermTaken n operands (read a i)) e.1 (parts.0, ap₂ read parts.1.0 parts.1.1)
term_taken (truth f) operands root h =
    let e = front (form_nodes f) operands (node kind.Truth (1 + form_size f)) root h in
    let part = is_form f operands e.0 in
    subst (λ n. TermTaken n operands (truth f)) e.1 (part.0, ap truth part.1)

pub array_taken : (a : ArrayTree) (operands : List Node) (root : Node) → array_nodes a ≡ operands ++ (root ∷ []) → ArrayTaken root operands a
array_taken (array x) operands root h =
    let e = front [] operands (node (kind.Base x) 1) root h in subst (λ n. ArrayTaken n operands (array x)) e.1 (tt, refl)
array_taken (stored a i t) operands root h =
    let e = three (array_nodes a) (term_nodes i) (term_nodes t) operands (node kind.Store (1 + (array_size a + (term_size i + term_size t)))) root h in
    let last = term_last (array_nodes a ++ term_nodes i) operands t e.0 in
    let parts = array_and_term a i (before_last operands) last.0 in
    subst (λ n. ArrayTaken n operands (stored a i t)) e.1
    ((parts.0.0, (parts.0.1, last.1.0)), λ j. stored (parts.1.0 j) (parts.1.1 j) (last.1.1 j))

pub form_taken : (f : FormTree) (operands : List Node) (root : Node) → form_nodes f ≡ operands ++ (root ∷ []) → FormTaken root operands f
form_taken always operands root h =
    let e = front [] operands (node kind.True 1) root h in subst (λ n. FormTaken n operands always) e.1 (tt, refl)
form_taken never operands root h =
    let e = front [] operands (node kind.False 1) root h in subst (λ n. FormTaken n operands never) e.1 (tt, refl)
form_taken (at_most t u) operands root h =
    let e = two (term_nodes t) (term_nodes u) operands (node kind.Le (1 + (term_size t + term_size u))) root h in
    let parts = two_terms t u operands e.0 in
    subst (λ n. FormTaken n operands (at_most t u)) e.1 (parts.0, ap₂ at_most parts.1.0 parts.1.1)
form_taken (equal t u) operands root h =
    let e = two (term_nodes t) (term_nodes u) operands (node kind.Eq (1 + (term_size t + term_size u))) root h in
    let parts = two_terms t u operands e.0 in
    subst (λ n. FormTaken n operands (equal t u)) e.1 (parts.0, ap₂ equal parts.1.0 parts.1.1)
form_taken (denied f) operands root h =
    let e = front (form_nodes f) operands (node kind.Not (1 + form_size f)) root h in
    let part = is_form f operands e.0 in
    subst (λ n. FormTaken n operands (denied f)) e.1 (part.0, ap denied part.1)
form_taken (both f g) operands root h =
    let e = two (form_nodes f) (form_nodes g) operands (node kind.And (1 + (form_size f + form_size g))) root h in
    let parts = two_forms f g operands e.0 in
    subst (λ n. FormTaken n operands (both f g)) e.1 (parts.0, ap₂ both parts.1.0 parts.1.1)
form_taken (either f g) operands root h =
    let e = two (form_nodes f) (form_nodes g) operands (node kind.Or (1 + (form_size f + form_size g))) root h in
    let parts = two_forms f g operands e.0 in
    subst (λ n. FormTaken n operands (either f g)) e.1 (parts.0, ap₂ either parts.1.0 parts.1.1)

-- the same of nodes that are a formula's, by the kind of the last
pub term_by_root : (nodes operands : List Node) (root : Node) (k : NodeKind) → IsTerm nodes → nodes ≡ operands ++ (root ∷ []) → root.kind ≡ k
    → IsTermOf k operands × (term_of k operands ≡ term_in nodes)
term_by_root nodes operands root k is h e =
    subst (λ l. IsTermOf l operands × (term_of l operands ≡ term_in nodes)) e (term_taken (term_in nodes) operands root (sym is ∙ h))

pub array_by_root : (nodes operands : List Node) (root : Node) (k : NodeKind) → IsArray nodes → nodes ≡ operands ++ (root ∷ []) → root.kind ≡ k
    → IsArrayOf k operands × (array_of k operands ≡ array_in nodes)
array_by_root nodes operands root k is h e =
    subst (λ l. IsArrayOf l operands × (array_of l operands ≡ array_in nodes)) e (array_taken (array_in nodes) operands root (sym is ∙ h))

pub form_by_root : (nodes operands : List Node) (root : Node) (k : NodeKind) → IsForm nodes → nodes ≡ operands ++ (root ∷ []) → root.kind ≡ k
    → IsFormOf k operands × (form_of k operands ≡ form_in nodes)
form_by_root nodes operands root k is h e =
    subst (λ l. IsFormOf l operands × (form_of l operands ≡ form_in nodes)) e (form_taken (form_in nodes) operands root (sym is ∙ h))

-- ---- nodes put together

pub made_of_one : (ms made xs : List Node) (m : ℕ) (k : NodeKind) → ms ≡ xs → made ≡ ms ++ (node k (1 + length ms) ∷ []) → length xs ≡ m
    → made ≡ xs ++ (node k (1 + m) ∷ [])
made_of_one ms made xs m k e h count = h ∙ (λ j. e j ++ (node k (1 + (ap length e ∙ count) j) ∷ []))

pub made_of_two : (ms ns os made xs ys : List Node) (m n : ℕ) (k : NodeKind) → ms ≡ xs → ns ≡ ys → os ≡ ms ++ ns → made ≡ os ++ (node k (1 + length os) ∷ [])
    → length xs ≡ m → length ys ≡ n → made ≡ xs ++ (ys ++ (node k (1 + (m + n)) ∷ []))
made_of_two ms ns os made xs ys m n k e f g h c d =
    made_of_one os made (xs ++ ys) (m + n) k (g ∙ ap₂ (λ u v. u ++ v) e f) h (length-append xs ys ∙ ap₂ (λ u v. u + v) c d)
    ∙ append_assoc xs ys (node k (1 + (m + n)) ∷ [])

pub made_of_three : (ls ms ns fs os made xs ys zs : List Node) (l m n : ℕ) (k : NodeKind) → ls ≡ xs → ms ≡ ys → ns ≡ zs → fs ≡ ls ++ ms → os ≡ fs ++ ns
    → made ≡ os ++ (node k (1 + length os) ∷ []) → length xs ≡ l → length ys ≡ m → length zs ≡ n
    → made ≡ xs ++ (ys ++ (zs ++ (node k (1 + (l + (m + n))) ∷ [])))
made_of_three ls ms ns fs os made xs ys zs l m n k e f g p q h b c d =
    let end : List Node = node k (1 + (l + (m + n))) ∷ [] in
    made_of_one os made (xs ++ (ys ++ zs)) (l + (m + n)) k
    (q ∙ ap₂ (λ u v. u ++ v) (p ∙ ap₂ (λ u v. u ++ v) e f) g ∙ append_assoc xs ys zs) h
    (length-append xs (ys ++ zs) ∙ ap₂ (λ u v. u + v) b (length-append ys zs ∙ ap₂ (λ u v. u + v) c d))
    ∙ append_assoc xs (ys ++ zs) end ∙ ap (λ u. xs ++ u) (append_assoc ys zs end)

pub ruleset counts = (term_count, array_count, form_count)
