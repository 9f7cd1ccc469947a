-- The tests of sameness decide whether two formulas are equal.
use Rattle.std.proofs.Common.{◌≡◌, ℕ, ℤ, Bool, true, false, ◌&&◌, nat_eq, if◌then◌else◌, List, [], ◌∷◌, Option, Some, None, refl, sym, ap, ap₂, ◌∙◌, subst}
use Rattle.std.specs.Cmp.{IsPartialEquivalence, IsEquivalence}
use Rattle.std.proofs.lemmas.Bool.Decides.{Decides-eqb, Decides-int_eq}
use Rattle.terms.specs.declared.sym.Sym.{Sym}
use Rattle.terms.specs.declared.fact.Fact.{Fact}
use Rattle.terms.specs.declared.fact.Fact.TheVariants as fact
use Rattle.terms.specs.declared.node.Node.{Node}
use Rattle.terms.specs.declared.node.NodeKind.{NodeKind}
use Rattle.terms.specs.declared.node.NodeKind.TheVariants as kind
use Rattle.terms.specs.Symbols.{same_sym}
use Rattle.terms.specs.Trees.{TermTree, ArrayTree, FormTree}
use Rattle.terms.specs.Nodes.{term_nodes, array_nodes, form_nodes, term_in, array_in, form_in}
use Rattle.terms.specs.Code.NodeLaws.{term_in-nodes, array_in-nodes, form_in-nodes}
use Rattle.terms.specs.Equality.{ordinal, number_in, symbol_in, same_numbers, same_symbols, same_node, same_nodes, same_term, same_array, same_form, same_fact}
use Rattle.terms.specs.Code.SymbolLaws.{same_sym-equal, same_sym-refl}

and_left : (a b : Bool) → (a && b) ≡ true → a ≡ true
and_left true b e = refl
and_left false true e = e
and_left false false e = e

and_right : (a b : Bool) → (a && b) ≡ true → b ≡ true
and_right true b e = e
and_right false true e = refl
and_right false false e = e

-- a kind by its number and what it keeps
number_or : Option ℤ → NodeKind
number_or (Some z) = kind.Num z
number_or None = kind.Or

symbol_or : (Sym → NodeKind) → Option Sym → NodeKind
symbol_or make (Some x) = make x
symbol_or make None = kind.Or

kind_of : ℕ → Option ℤ → Option Sym → NodeKind
kind_of n z x =
    if nat_eq n 0 then number_or z else
    if nat_eq n 1 then symbol_or kind.Of x else
    if nat_eq n 2 then kind.Add else
    if nat_eq n 3 then kind.Sub else
    if nat_eq n 4 then kind.Mul else
    if nat_eq n 5 then kind.Div else
    if nat_eq n 6 then kind.Rem else
    if nat_eq n 7 then kind.Read else
    if nat_eq n 8 then kind.Truth else
    if nat_eq n 9 then symbol_or kind.Base x else
    if nat_eq n 10 then kind.Store else
    if nat_eq n 11 then kind.True else
    if nat_eq n 12 then kind.False else
    if nat_eq n 13 then kind.Le else
    if nat_eq n 14 then kind.Eq else
    if nat_eq n 15 then kind.Not else
    if nat_eq n 16 then kind.And else
    kind.Or

kind_back : (k : NodeKind) → kind_of (ordinal k) (number_in k) (symbol_in k) ≡ k
unfolding ordinal number_in symbol_in kind_of number_or symbol_or
kind_back (kind.Num z) = refl
kind_back (kind.Of x) = refl
kind_back kind.Add = refl
kind_back kind.Sub = refl
kind_back kind.Mul = refl
kind_back kind.Div = refl
kind_back kind.Rem = refl
kind_back kind.Read = refl
kind_back kind.Truth = refl
kind_back (kind.Base x) = refl
kind_back kind.Store = refl
kind_back kind.True = refl
kind_back kind.False = refl
kind_back kind.Le = refl
kind_back kind.Eq = refl
kind_back kind.Not = refl
kind_back kind.And = refl
kind_back kind.Or = refl

same_numbers-equal : (x y : Option ℤ) → same_numbers x y ≡ true → x ≡ y
unfolding same_numbers
same_numbers-equal None None e = refl
same_numbers-equal None (Some w) e = absurd cc
same_numbers-equal (Some z) None e = absurd cc
same_numbers-equal (Some z) (Some w) e = ap Some ((Decides-int_eq z w).0 e)

same_numbers-refl : (x : Option ℤ) → same_numbers x x ≡ true
unfolding same_numbers
same_numbers-refl None = refl
same_numbers-refl (Some z) = (Decides-int_eq z z).1 refl

same_symbols-equal : (x y : Option Sym) → same_symbols x y ≡ true → x ≡ y
unfolding same_symbols
same_symbols-equal None None e = refl
same_symbols-equal None (Some y) e = absurd cc
same_symbols-equal (Some x) None e = absurd cc
same_symbols-equal (Some x) (Some y) e = ap Some (same_sym-equal x y e)

same_symbols-refl : (x : Option Sym) → same_symbols x x ≡ true
unfolding same_symbols
same_symbols-refl None = refl
same_symbols-refl (Some x) = same_sym-refl x

pub same_node-equal : (n m : Node) → same_node n m ≡ true → n ≡ m
unfolding same_node
same_node-equal n m e =
    let ordinals = nat_eq (ordinal n.kind) (ordinal m.kind) in
    let sizes = nat_eq n.size m.size in
    let numbers = same_numbers (number_in n.kind) (number_in m.kind) in
    let symbols = same_symbols (symbol_in n.kind) (symbol_in m.kind) in
    let start = and_left (ordinals && sizes) (numbers && symbols) e in
    let rest = and_right (ordinals && sizes) (numbers && symbols) e in
    let one : ordinal n.kind ≡ ordinal m.kind = (Decides-eqb (ordinal n.kind) (ordinal m.kind)).0 (and_left ordinals sizes start) in
    let two : number_in n.kind ≡ number_in m.kind = same_numbers-equal (number_in n.kind) (number_in m.kind) (and_left numbers symbols rest) in
    let three : symbol_in n.kind ≡ symbol_in m.kind = same_symbols-equal (symbol_in n.kind) (symbol_in m.kind) (and_right numbers symbols rest) in
    let same : n.kind ≡ m.kind = sym (kind_back n.kind) ∙ (λ i. kind_of (one i) (two i) (three i)) ∙ kind_back m.kind in
    let size : n.size ≡ m.size = (Decides-eqb n.size m.size).0 (and_right ordinals sizes start) in
    λ i. record { kind = same i; size = size i }

pub same_node-refl : (n : Node) → same_node n n ≡ true
unfolding same_node
same_node-refl n =
    λ i. ((Decides-eqb (ordinal n.kind) (ordinal n.kind)).1 refl i && (Decides-eqb n.size n.size).1 refl i) && (same_numbers-refl (number_in n.kind) i && same_symbols-refl (symbol_in n.kind) i)

pub same_nodes-equal : (ns ms : List Node) → same_nodes ns ms ≡ true → ns ≡ ms
same_nodes-equal [] [] e = refl
same_nodes-equal [] (m ∷ ms) e = absurd cc
same_nodes-equal (n ∷ ns) [] e = absurd cc
same_nodes-equal (n ∷ ns) (m ∷ ms) e = ap₂ (λ x xs. x ∷ xs) (same_node-equal n m (and_left _ _ e)) (same_nodes-equal ns ms (and_right _ _ e))

pub same_nodes-refl : (ns : List Node) → same_nodes ns ns ≡ true
same_nodes-refl [] = refl
same_nodes-refl (n ∷ ns) = ap₂ (λ a b. a && b) (same_node-refl n) (same_nodes-refl ns)

pub same_term-equal : (t u : TermTree) → same_term t u ≡ true → t ≡ u
same_term-equal t u e = sym (term_in-nodes t) ∙ ap term_in (same_nodes-equal (term_nodes t) (term_nodes u) e) ∙ term_in-nodes u

pub same_term-refl : (t : TermTree) → same_term t t ≡ true
same_term-refl t = same_nodes-refl (term_nodes t)

pub same_array-equal : (a b : ArrayTree) → same_array a b ≡ true → a ≡ b
same_array-equal a b e = sym (array_in-nodes a) ∙ ap array_in (same_nodes-equal (array_nodes a) (array_nodes b) e) ∙ array_in-nodes b

pub same_array-refl : (a : ArrayTree) → same_array a a ≡ true
same_array-refl a = same_nodes-refl (array_nodes a)

pub same_form-equal : (f g : FormTree) → same_form f g ≡ true → f ≡ g
same_form-equal f g e = sym (form_in-nodes f) ∙ ap form_in (same_nodes-equal (form_nodes f) (form_nodes g) e) ∙ form_in-nodes g

pub same_form-refl : (f : FormTree) → same_form f f ≡ true
same_form-refl f = same_nodes-refl (form_nodes f)

pub same_fact-equal : (f g : Fact) → same_fact f g ≡ true → f ≡ g
same_fact-equal (fact.Plain f) (fact.Plain g) e = ap fact.Plain (same_form-equal f g e)
same_fact-equal (fact.Plain f) (fact.All y low high g) e = absurd cc
same_fact-equal (fact.All x lo hi f) (fact.Plain g) e = absurd cc
same_fact-equal (fact.All x lo hi f) (fact.All y low high g) e =
    let names = same_sym x y in
    let low_ends = same_term lo low in
    let high_ends = same_term hi high in
    let bodies = same_form f g in
    let rest = and_right names (low_ends && (high_ends && bodies)) e in
    let last = and_right low_ends (high_ends && bodies) rest in
    λ i. fact.All (same_sym-equal x y (and_left names (low_ends && (high_ends && bodies)) e) i) (same_term-equal lo low (and_left low_ends (high_ends && bodies) rest) i)
    (same_term-equal hi high (and_left high_ends bodies last) i) (same_form-equal f g (and_right high_ends bodies last) i)

pub same_fact-refl : (f : Fact) → same_fact f f ≡ true
same_fact-refl (fact.Plain f) = same_form-refl f
same_fact-refl (fact.All x lo hi f) =
    ap₂ (λ a b. a && b) (same_sym-refl x) (ap₂ (λ a b. a && b) (same_term-refl lo) (ap₂ (λ a b. a && b) (same_term-refl hi) (same_form-refl f)))

-- ---- tests that decide equality are equivalences

module _ {K : Type 0} (E : K → K → Bool) (equal : (x y : K) → E x y ≡ true → x ≡ y) (same : (x : K) → E x x ≡ true) where
  turned : (x y : K) → E x y ≡ true → E y x ≡ true
  turned x y e = subst (λ z. E z x ≡ true) (equal x y e) (same x)

  by_tests : (a b : Bool) → (a ≡ true → b ≡ true) → (b ≡ true → a ≡ true) → a ≡ b
  by_tests true b h k = sym (h refl)
  by_tests false true h k = k refl
  by_tests false false h k = refl

  pub is_partial_equivalence : IsPartialEquivalence E
  is_partial_equivalence = record {
    symm = λ x y. by_tests (E x y) (E y x) (turned x y) (turned y x);
    trans = λ x y z e f. subst (λ w. E x w ≡ true) (equal y z f) e;
  }

  pub is_equivalence : IsEquivalence E
  is_equivalence = record {
    refl = same;
    symm = λ x y. by_tests (E x y) (E y x) (turned x y) (turned y x);
    congr = λ x y z e. ap (λ w. E w z) (equal x y e);
  }
