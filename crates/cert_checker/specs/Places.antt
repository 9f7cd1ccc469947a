-- Terms at their places in formulas, and what a formula becomes where they are replaced.
use Rattle.std.specs.Prelude.{ℤ, if◌then◌else◌, List, [], ◌∷◌, ◌++◌, map, Option, Some, None, filter_map}
use Rattle.linear_rows.specs.Numbers.{is_zero}
use Rattle.terms.specs.Trees.{TermTree, number, name, plus, minus, times, divided, remainder, read, truth, ArrayTree, array, stored, FormTree, always, never, at_most, equal, denied, both, either}
use Rattle.terms.specs.Equality.{same_term}

-- a term that stands in a whole, and the whole with another term in its place
abbrev pub Place : Type 0 → Type 0
Place Whole = TermTree × (TermTree → Whole)

-- a place in a part is a place in the whole
abbrev pub within : {Part Whole : Type 0} → (Part → Whole) → List (Place Part) → List (Place Whole)
within whole places = map (λ p. (p.0, λ t. whole (p.1 t))) places

-- the place of a term in itself, before those in its parts
abbrev pub itself_and : TermTree → List (Place TermTree) → List (Place TermTree)
itself_and t places = (t, λ v. v) ∷ places

-- the places of all terms in a formula, each before those in its parts, from left to right
abbrev mutual
  pub places_in_term : TermTree → List (Place TermTree)
  places_in_term (number z) = itself_and (number z) []
  places_in_term (name x) = itself_and (name x) []
  places_in_term (plus t u) = itself_and (plus t u) (within (λ v. plus v u) (places_in_term t) ++ within (plus t) (places_in_term u))
  places_in_term (minus t u) = itself_and (minus t u) (within (λ v. minus v u) (places_in_term t) ++ within (minus t) (places_in_term u))
  places_in_term (times t u) = itself_and (times t u) (within (λ v. times v u) (places_in_term t) ++ within (times t) (places_in_term u))
  places_in_term (divided t u) = itself_and (divided t u) (within (λ v. divided v u) (places_in_term t) ++ within (divided t) (places_in_term u))
  places_in_term (remainder t u) = itself_and (remainder t u) (within (λ v. remainder v u) (places_in_term t) ++ within (remainder t) (places_in_term u))
  places_in_term (read a i) = itself_and (read a i) (within (λ b. read b i) (places_in_array a) ++ within (read a) (places_in_term i))
  places_in_term (truth f) = itself_and (truth f) (within truth (places_in_form f))

  pub places_in_array : ArrayTree → List (Place ArrayTree)
  places_in_array (array x) = []
  places_in_array (stored a i t) = within (λ b. stored b i t) (places_in_array a)
      ++ (within (λ v. stored a v t) (places_in_term i) ++ within (stored a i) (places_in_term t))

  pub places_in_form : FormTree → List (Place FormTree)
  places_in_form always = []
  places_in_form never = []
  places_in_form (at_most t u) = within (λ v. at_most v u) (places_in_term t) ++ within (at_most t) (places_in_term u)
  places_in_form (equal t u) = within (λ v. equal v u) (places_in_term t) ++ within (equal t) (places_in_term u)
  places_in_form (denied f) = within denied (places_in_form f)
  places_in_form (both f g) = within (λ h. both h g) (places_in_form f) ++ within (both f) (places_in_form g)
  places_in_form (either f g) = within (λ h. either h g) (places_in_form f) ++ within (either f) (places_in_form g)

-- the form of a `truth`, with the whole where another term stands in its place
abbrev pub truth_at : {Whole : Type 0} → Place Whole → Option (FormTree × (TermTree → Whole))
truth_at (truth f, put) = Some (f, put)
truth_at p = None

abbrev pub truths_in : FormTree → List (FormTree × (TermTree → FormTree))
truths_in f = filter_map truth_at (places_in_form f)

-- what a quotient or remainder divides, and the number other than 0 by which it does
abbrev pub by_number : TermTree → TermTree → Option (TermTree × ℤ)
by_number t (number d) = if is_zero d then None else Some (t, d)
by_number t u = None

abbrev pub division_of : TermTree → Option (TermTree × ℤ)
division_of (divided t u) = by_number t u
division_of (remainder t u) = by_number t u
division_of t = None

-- ---- every occurrence of a term

abbrev pub unless_same : TermTree → TermTree → TermTree → TermTree → TermTree
unless_same a b t other = if same_term a t then b else other

-- Each place where `a` stands has `b`. Nothing is looked for inside what is replaced.
abbrev mutual
  pub exchanged_term : TermTree → TermTree → TermTree → TermTree
  exchanged_term a b (number z) = unless_same a b (number z) (number z)
  exchanged_term a b (name x) = unless_same a b (name x) (name x)
  exchanged_term a b (plus t u) = unless_same a b (plus t u) (plus (exchanged_term a b t) (exchanged_term a b u))
  exchanged_term a b (minus t u) = unless_same a b (minus t u) (minus (exchanged_term a b t) (exchanged_term a b u))
  exchanged_term a b (times t u) = unless_same a b (times t u) (times (exchanged_term a b t) (exchanged_term a b u))
  exchanged_term a b (divided t u) = unless_same a b (divided t u) (divided (exchanged_term a b t) (exchanged_term a b u))
  exchanged_term a b (remainder t u) = unless_same a b (remainder t u) (remainder (exchanged_term a b t) (exchanged_term a b u))
  exchanged_term a b (read r i) = unless_same a b (read r i) (read (exchanged_array a b r) (exchanged_term a b i))
  exchanged_term a b (truth f) = unless_same a b (truth f) (truth (exchanged_form a b f))

  pub exchanged_array : TermTree → TermTree → ArrayTree → ArrayTree
  exchanged_array a b (array x) = array x
  exchanged_array a b (stored r i t) = stored (exchanged_array a b r) (exchanged_term a b i) (exchanged_term a b t)

  pub exchanged_form : TermTree → TermTree → FormTree → FormTree
  exchanged_form a b always = always
  exchanged_form a b never = never
  exchanged_form a b (at_most t u) = at_most (exchanged_term a b t) (exchanged_term a b u)
  exchanged_form a b (equal t u) = equal (exchanged_term a b t) (exchanged_term a b u)
  exchanged_form a b (denied f) = denied (exchanged_form a b f)
  exchanged_form a b (both f g) = both (exchanged_form a b f) (exchanged_form a b g)
  exchanged_form a b (either f g) = either (exchanged_form a b f) (exchanged_form a b g)
