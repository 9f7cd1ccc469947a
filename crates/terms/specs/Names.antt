-- The names and the terms that stand in a formula, from left to right.
use Rattle.std.specs.Prelude.{Bool, false, not, ◌||◌, if◌then◌else◌, List, [], ◌∷◌, ◌++◌, filter, map, flat_map}
use Rattle.std.specs.List.{list_any}
use Rattle.terms.specs.declared.sym.Sym.{Sym}
use Rattle.terms.specs.declared.fact.Fact.{Fact}
use Rattle.terms.specs.declared.fact.Fact.TheVariants as fact
use Rattle.terms.specs.declared.sequent.Sequent.{Sequent}
use Rattle.terms.specs.Symbols.{same_sym}
use Rattle.terms.specs.Trees.{TermTree, number, name, plus, minus, times, divided, remainder, read, truth, ArrayTree, array, stored, FormTree, always, never, at_most, equal, denied, both, either}

-- a name where it stands: as a number, or as an array
pub data Occurrence : Type 0 where
  as_number : Sym → Occurrence
  as_array : Sym → Occurrence

abbrev pub symbol : Occurrence → Sym
symbol (as_number x) = x
symbol (as_array x) = x

abbrev mutual
  pub term_names : TermTree → List Occurrence
  term_names (number z) = []
  term_names (name x) = as_number x ∷ []
  term_names (plus t u) = term_names t ++ term_names u
  term_names (minus t u) = term_names t ++ term_names u
  term_names (times t u) = term_names t ++ term_names u
  term_names (divided t u) = term_names t ++ term_names u
  term_names (remainder t u) = term_names t ++ term_names u
  term_names (read a i) = array_names a ++ term_names i
  term_names (truth f) = form_names f

  pub array_names : ArrayTree → List Occurrence
  array_names (array x) = as_array x ∷ []
  array_names (stored a i t) = array_names a ++ (term_names i ++ term_names t)

  pub form_names : FormTree → List Occurrence
  form_names always = []
  form_names never = []
  form_names (at_most t u) = term_names t ++ term_names u
  form_names (equal t u) = term_names t ++ term_names u
  form_names (denied f) = form_names f
  form_names (both f g) = form_names f ++ form_names g
  form_names (either f g) = form_names f ++ form_names g

-- whether the name stands as a number there; an array of that name is something else
abbrev pub is_number : Sym → Occurrence → Bool
is_number x (as_number y) = same_sym x y
is_number x (as_array y) = false

-- the free names: those of the bounds, and those of the body but for the bound number
abbrev pub fact_names : Fact → List Occurrence
fact_names (fact.Plain f) = form_names f
fact_names (fact.All x lo hi f) = term_names lo ++ (term_names hi ++ filter (λ o. not (is_number x o)) (form_names f))

-- the free names of a sequent, those of its hypotheses first
abbrev pub sequent_names : Sequent → List Occurrence
sequent_names s = flat_map fact_names s.hyps ++ fact_names s.goal

-- whether the number that the fact binds is among the names
abbrev pub captures : Fact → List Occurrence → Bool
captures (fact.Plain f) names = false
captures (fact.All x lo hi f) names = list_any (is_number x) names

-- a list with the name at its end, if it doesn't have it yet
abbrev pub with_name : List Sym → Sym → List Sym
with_name names x = if list_any (λ y. same_sym y x) names then names else names ++ (x ∷ [])

-- a list with these names, one after the other
unfoldable pub with_names : List Sym → List Occurrence → List Sym
with_names names [] = names
with_names names (o ∷ os) = with_names (with_name names (symbol o)) os

-- each name of a list once, at its first place
abbrev pub first_occurrences : List Sym → List Sym
first_occurrences [] = []
first_occurrences (x ∷ xs) = x ∷ filter (λ y. not (same_sym x y)) (first_occurrences xs)

-- the names in a list of occurrences, each once, in the order of their first places
abbrev pub distinct : List Occurrence → List Sym
distinct os = first_occurrences (map symbol os)

-- whether a name stands somewhere, as a number, as an array, or as a bound name
abbrev pub occurs_among : Sym → List Occurrence → Bool
occurs_among x os = list_any (λ o. same_sym x (symbol o)) os

abbrev pub occurs_in_fact : Sym → Fact → Bool
occurs_in_fact x (fact.Plain f) = occurs_among x (form_names f)
occurs_in_fact x (fact.All y lo hi f) = same_sym x y || (occurs_among x (term_names lo) || (occurs_among x (term_names hi) || occurs_among x (form_names f)))

-- the same of a sequent, its sorts included
abbrev pub occurs_in_sequent : Sym → Sequent → Bool
occurs_in_sequent x s = list_any (λ e. same_sym x e.0) s.sorts || (list_any (occurs_in_fact x) s.hyps || occurs_in_fact x s.goal)

-- the terms in a formula, each before its parts
abbrev mutual
  pub terms_in_term : TermTree → List TermTree
  terms_in_term (number z) = number z ∷ []
  terms_in_term (name x) = name x ∷ []
  terms_in_term (plus t u) = plus t u ∷ (terms_in_term t ++ terms_in_term u)
  terms_in_term (minus t u) = minus t u ∷ (terms_in_term t ++ terms_in_term u)
  terms_in_term (times t u) = times t u ∷ (terms_in_term t ++ terms_in_term u)
  terms_in_term (divided t u) = divided t u ∷ (terms_in_term t ++ terms_in_term u)
  terms_in_term (remainder t u) = remainder t u ∷ (terms_in_term t ++ terms_in_term u)
  terms_in_term (read a i) = read a i ∷ (terms_in_array a ++ terms_in_term i)
  terms_in_term (truth f) = truth f ∷ terms_in_form f

  pub terms_in_array : ArrayTree → List TermTree
  terms_in_array (array x) = []
  terms_in_array (stored a i t) = terms_in_array a ++ (terms_in_term i ++ terms_in_term t)

  pub terms_in_form : FormTree → List TermTree
  terms_in_form always = []
  terms_in_form never = []
  terms_in_form (at_most t u) = terms_in_term t ++ terms_in_term u
  terms_in_form (equal t u) = terms_in_term t ++ terms_in_term u
  terms_in_form (denied f) = terms_in_form f
  terms_in_form (both f g) = terms_in_form f ++ terms_in_form g
  terms_in_form (either f g) = terms_in_form f ++ terms_in_form g
