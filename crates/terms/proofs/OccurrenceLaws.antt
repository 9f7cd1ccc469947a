-- The names of a formula are those of its nodes.
use Rattle.std.proofs.Common.{◌≡◌, Bool, true, false, not, ◌||◌, if◌then◌else◌, List, [], ◌∷◌, ◌++◌, filter, cond, Option, Some, None, refl, sym, ap, ap₂, ◌∙◌}
use Rattle.std.specs.List.{list_any}
use Rattle.std.proofs.lemmas.List.{append-nil}
use Rattle.std.proofs.lemmas.List.Folds.{list_any-append}
use Rattle.std.proofs.lemmas.List.Elements.{filter-append}
use Rattle.std.proofs.lemmas.Grind.{flat_map-append}
use Rattle.terms.specs.declared.sym.Sym.{Sym}
use Rattle.terms.specs.declared.node.Node.{Node}
use Rattle.terms.specs.Trees.{TermTree, number, name, plus, minus, times, divided, remainder, read, truth, ArrayTree, array, stored, FormTree, always, never, at_most, equal, denied, both, either}
use Rattle.terms.specs.Nodes.{term_nodes, array_nodes, form_nodes}
use Rattle.terms.specs.Names.{Occurrence, as_number, as_array, term_names, array_names, form_names}
use Rattle.terms.specs.Code.Rewriting.{is_bound}
use Rattle.terms.specs.Code.Occurrences.{node_passes, nodes_pass, node_names, nodes_names, is_bound_number}

or_false : (b : Bool) → (b || false) ≡ b
or_false true = refl
or_false false = refl

module _ (test : Occurrence → Bool) where
  pass_one : (ms : List Node) (n : Node) (xs : List Occurrence) → nodes_pass test ms ≡ list_any test xs → node_passes test n.kind ≡ false
      → nodes_pass test (ms ++ (n ∷ [])) ≡ list_any test xs
  pass_one ms n xs h e = list_any-append (λ n. node_passes test n.kind) ms (n ∷ []) ∙ ap₂ (λ a b. a || (b || false)) h e ∙ or_false (list_any test xs)

  pass_two : (ms ns : List Node) (n : Node) (xs ys : List Occurrence) → nodes_pass test ms ≡ list_any test xs → nodes_pass test ns ≡ list_any test ys → node_passes test n.kind ≡ false
      → nodes_pass test (ms ++ (ns ++ (n ∷ []))) ≡ list_any test (xs ++ ys)
  pass_two ms ns n xs ys h k e = list_any-append (λ n. node_passes test n.kind) ms (ns ++ (n ∷ [])) ∙ ap₂ (λ a b. a || b) h (pass_one ns n ys k e) ∙ sym (list_any-append test xs ys)

  pass_three : (ls ms ns : List Node) (n : Node) (xs ys zs : List Occurrence) → nodes_pass test ls ≡ list_any test xs → nodes_pass test ms ≡ list_any test ys → nodes_pass test ns ≡ list_any test zs
      → node_passes test n.kind ≡ false → nodes_pass test (ls ++ (ms ++ (ns ++ (n ∷ [])))) ≡ list_any test (xs ++ (ys ++ zs))
  pass_three ls ms ns n xs ys zs h j k e =
      list_any-append (λ n. node_passes test n.kind) ls (ms ++ (ns ++ (n ∷ []))) ∙ ap₂ (λ a b. a || b) h (pass_two ms ns n ys zs j k e) ∙ sym (list_any-append test xs (ys ++ zs))

  mutual
    unfolding node_passes node_names

    pub term_passes : (t : TermTree) → nodes_pass test (term_nodes t) ≡ list_any test (term_names t)
    term_passes (number z) = refl
    term_passes (name x) = refl
    term_passes (plus t u) = pass_two (term_nodes t) (term_nodes u) _ (term_names t) (term_names u) (term_passes t) (term_passes u) refl
    term_passes (minus t u) = pass_two (term_nodes t) (term_nodes u) _ (term_names t) (term_names u) (term_passes t) (term_passes u) refl
    term_passes (times t u) = pass_two (term_nodes t) (term_nodes u) _ (term_names t) (term_names u) (term_passes t) (term_passes u) refl
    term_passes (divided t u) = pass_two (term_nodes t) (term_nodes u) _ (term_names t) (term_names u) (term_passes t) (term_passes u) refl
    term_passes (remainder t u) = pass_two (term_nodes t) (term_nodes u) _ (term_names t) (term_names u) (term_passes t) (term_passes u) refl
    term_passes (read a i) = pass_two (array_nodes a) (term_nodes i) _ (array_names a) (term_names i) (array_passes a) (term_passes i) refl
    term_passes (truth f) = pass_one (form_nodes f) _ (form_names f) (form_passes f) refl

    pub array_passes : (a : ArrayTree) → nodes_pass test (array_nodes a) ≡ list_any test (array_names a)
    array_passes (array x) = refl
    array_passes (stored a i t) = pass_three (array_nodes a) (term_nodes i) (term_nodes t) _ (array_names a) (term_names i) (term_names t) (array_passes a) (term_passes i) (term_passes t) refl

    pub form_passes : (f : FormTree) → nodes_pass test (form_nodes f) ≡ list_any test (form_names f)
    form_passes always = refl
    form_passes never = refl
    form_passes (at_most t u) = pass_two (term_nodes t) (term_nodes u) _ (term_names t) (term_names u) (term_passes t) (term_passes u) refl
    form_passes (equal t u) = pass_two (term_nodes t) (term_nodes u) _ (term_names t) (term_names u) (term_passes t) (term_passes u) refl
    form_passes (both f g) = pass_two (form_nodes f) (form_nodes g) _ (form_names f) (form_names g) (form_passes f) (form_passes g) refl
    form_passes (either f g) = pass_two (form_nodes f) (form_nodes g) _ (form_names f) (form_names g) (form_passes f) (form_passes g) refl
    form_passes (denied f) = pass_one (form_nodes f) _ (form_names f) (form_passes f) refl

module _ (bound : Option Sym) where
  abbrev pub kept : Occurrence → Bool
  kept o = not (is_bound_number bound o)

  name_one : (ms : List Node) (n : Node) (xs : List Occurrence) → nodes_names bound ms ≡ filter kept xs → node_names bound n.kind ≡ []
      → nodes_names bound (ms ++ (n ∷ [])) ≡ filter kept xs
  name_one ms n xs h e = flat_map-append (λ n. node_names bound n.kind) ms (n ∷ []) ∙ ap₂ (λ a b. a ++ (b ++ [])) h e ∙ append-nil (filter kept xs)

  name_two : (ms ns : List Node) (n : Node) (xs ys : List Occurrence) → nodes_names bound ms ≡ filter kept xs → nodes_names bound ns ≡ filter kept ys → node_names bound n.kind ≡ []
      → nodes_names bound (ms ++ (ns ++ (n ∷ []))) ≡ filter kept (xs ++ ys)
  name_two ms ns n xs ys h k e = flat_map-append (λ n. node_names bound n.kind) ms (ns ++ (n ∷ [])) ∙ ap₂ (λ a b. a ++ b) h (name_one ns n ys k e) ∙ sym (filter-append kept xs ys)

  name_three : (ls ms ns : List Node) (n : Node) (xs ys zs : List Occurrence) → nodes_names bound ls ≡ filter kept xs → nodes_names bound ms ≡ filter kept ys → nodes_names bound ns ≡ filter kept zs
      → node_names bound n.kind ≡ [] → nodes_names bound (ls ++ (ms ++ (ns ++ (n ∷ [])))) ≡ filter kept (xs ++ (ys ++ zs))
  name_three ls ms ns n xs ys zs h j k e =
      flat_map-append (λ n. node_names bound n.kind) ls (ms ++ (ns ++ (n ∷ []))) ∙ ap₂ (λ a b. a ++ b) h (name_two ms ns n ys zs j k e) ∙ sym (filter-append kept xs (ys ++ zs))

  turned : (b : Bool) (o : Occurrence) → ((if b then [] else o ∷ []) ++ []) ≡ cond (not b) (o ∷ []) []
  turned true o = refl
  turned false o = refl

  number_kept : (x : Sym) → is_bound bound x ≡ is_bound_number bound (as_number x)
  number_kept x = at bound
    where
      at : (b : Option Sym) → is_bound b x ≡ is_bound_number b (as_number x)
      at None = refl
      at (Some y) = refl

  array_kept : (x : Sym) → is_bound_number bound (as_array x) ≡ false
  array_kept x = at bound
    where
      at : (b : Option Sym) → is_bound_number b (as_array x) ≡ false
      at None = refl
      at (Some y) = refl

  mutual
    unfolding node_passes node_names

    pub term_kept_names : (t : TermTree) → nodes_names bound (term_nodes t) ≡ filter kept (term_names t)
    term_kept_names (number z) = refl
    term_kept_names (name x) = turned (is_bound bound x) (as_number x) ∙ ap (λ b. cond (not b) (as_number x ∷ []) []) (number_kept x)
    term_kept_names (plus t u) = name_two (term_nodes t) (term_nodes u) _ (term_names t) (term_names u) (term_kept_names t) (term_kept_names u) refl
    term_kept_names (minus t u) = name_two (term_nodes t) (term_nodes u) _ (term_names t) (term_names u) (term_kept_names t) (term_kept_names u) refl
    term_kept_names (times t u) = name_two (term_nodes t) (term_nodes u) _ (term_names t) (term_names u) (term_kept_names t) (term_kept_names u) refl
    term_kept_names (divided t u) = name_two (term_nodes t) (term_nodes u) _ (term_names t) (term_names u) (term_kept_names t) (term_kept_names u) refl
    term_kept_names (remainder t u) = name_two (term_nodes t) (term_nodes u) _ (term_names t) (term_names u) (term_kept_names t) (term_kept_names u) refl
    term_kept_names (read a i) = name_two (array_nodes a) (term_nodes i) _ (array_names a) (term_names i) (array_kept_names a) (term_kept_names i) refl
    term_kept_names (truth f) = name_one (form_nodes f) _ (form_names f) (form_kept_names f) refl

    pub array_kept_names : (a : ArrayTree) → nodes_names bound (array_nodes a) ≡ filter kept (array_names a)
    array_kept_names (array x) = sym (ap (λ b. cond (not b) (as_array x ∷ []) []) (array_kept x))
    array_kept_names (stored a i t) = name_three (array_nodes a) (term_nodes i) (term_nodes t) _ (array_names a) (term_names i) (term_names t) (array_kept_names a) (term_kept_names i) (term_kept_names t) refl

    pub form_kept_names : (f : FormTree) → nodes_names bound (form_nodes f) ≡ filter kept (form_names f)
    form_kept_names always = refl
    form_kept_names never = refl
    form_kept_names (at_most t u) = name_two (term_nodes t) (term_nodes u) _ (term_names t) (term_names u) (term_kept_names t) (term_kept_names u) refl
    form_kept_names (equal t u) = name_two (term_nodes t) (term_nodes u) _ (term_names t) (term_names u) (term_kept_names t) (term_kept_names u) refl
    form_kept_names (both f g) = name_two (form_nodes f) (form_nodes g) _ (form_names f) (form_names g) (form_kept_names f) (form_kept_names g) refl
    form_kept_names (either f g) = name_two (form_nodes f) (form_nodes g) _ (form_names f) (form_names g) (form_kept_names f) (form_kept_names g) refl
    form_kept_names (denied f) = name_one (form_nodes f) _ (form_names f) (form_kept_names f) refl

-- without a bound name all are kept
all_kept : (os : List Occurrence) → filter (λ o. not (is_bound_number None o)) os ≡ os
all_kept [] = refl
all_kept (o ∷ os) = ap (λ xs. o ∷ xs) (all_kept os)

pub term_nodes_names : (t : TermTree) → nodes_names None (term_nodes t) ≡ term_names t
term_nodes_names t = term_kept_names None t ∙ all_kept (term_names t)

pub form_nodes_names : (f : FormTree) → nodes_names None (form_nodes f) ≡ form_names f
form_nodes_names f = form_kept_names None f ∙ all_kept (form_names f)

pub ruleset passing = (term_passes, array_passes, form_passes)

pub ruleset free_names = (term_nodes_names, form_nodes_names, form_kept_names)
