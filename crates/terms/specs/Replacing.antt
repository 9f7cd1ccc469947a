-- Names replaced in formulas, all at once.
use Rattle.std.specs.Prelude.{◌≡◌, false, [], ◌∷◌, if◌then◌else◌, find, unwrap_or}
use Rattle.std.specs.Option.{option_map}
use Rattle.terms.specs.declared.sym.Sym.{Sym}
use Rattle.terms.specs.declared.changes.Changes.{Changes}
use Rattle.terms.specs.declared.fact.Fact.{Fact}
use Rattle.terms.specs.declared.fact.Fact.TheVariants as fact
use Rattle.terms.specs.Symbols.{same_sym}
use Rattle.terms.specs.Trees.{TermTree, number, name, plus, minus, times, divided, remainder, read, truth, ArrayTree, array, stored, FormTree, always, never, at_most, equal, denied, both, either}
use Rattle.terms.specs.Names.{as_number, term_names, array_names, captures}
use Rattle.terms.specs.Truth.{Interpretation, term_at, array_at}

-- what stands in for each name
pub record Change : Type 0 where
  pub number : Sym → TermTree
  pub array : Sym → ArrayTree

-- one name is replaced, and the others stay
abbrev pub number_by : Sym → TermTree → Change
number_by x t = record { number = λ y. if same_sym x y then t else name y; array = array }

abbrev pub array_by : Sym → ArrayTree → Change
array_by x a = record { number = name; array = λ y. if same_sym x y then a else array y }

abbrev mutual
  pub replaced_term : Change → TermTree → TermTree
  replaced_term c (number z) = number z
  replaced_term c (name x) = c.number x
  replaced_term c (plus t u) = plus (replaced_term c t) (replaced_term c u)
  replaced_term c (minus t u) = minus (replaced_term c t) (replaced_term c u)
  replaced_term c (times t u) = times (replaced_term c t) (replaced_term c u)
  replaced_term c (divided t u) = divided (replaced_term c t) (replaced_term c u)
  replaced_term c (remainder t u) = remainder (replaced_term c t) (replaced_term c u)
  replaced_term c (read a i) = read (replaced_array c a) (replaced_term c i)
  replaced_term c (truth f) = truth (replaced_form c f)

  pub replaced_array : Change → ArrayTree → ArrayTree
  replaced_array c (array x) = c.array x
  replaced_array c (stored a i t) = stored (replaced_array c a) (replaced_term c i) (replaced_term c t)

  pub replaced_form : Change → FormTree → FormTree
  replaced_form c always = always
  replaced_form c never = never
  replaced_form c (at_most t u) = at_most (replaced_term c t) (replaced_term c u)
  replaced_form c (equal t u) = equal (replaced_term c t) (replaced_term c u)
  replaced_form c (denied f) = denied (replaced_form c f)
  replaced_form c (both f g) = both (replaced_form c f) (replaced_form c g)
  replaced_form c (either f g) = either (replaced_form c f) (replaced_form c g)

-- under a bound name, which stays
abbrev pub below : Sym → Change → Change
below x c = record c { number = λ y. if same_sym x y then name y else c.number y }

abbrev pub replaced_fact : Change → Fact → Fact
replaced_fact c (fact.Plain f) = fact.Plain (replaced_form c f)
replaced_fact c (fact.All x lo hi f) = fact.All x (replaced_term c lo) (replaced_term c hi) (replaced_form (below x c) f)

-- the interpretation that gives each name what stands in for it
abbrev pub changed : Change → Interpretation → Interpretation
changed c v = record { value = λ x. term_at v (c.number x); element = λ x. array_at v (c.array x) }

-- nothing that the change puts in has the number that the fact binds
pub record Avoids (c : Change) (f : Fact) : Type 0 where
  pub numbers : (x : Sym) → captures f (as_number x ∷ []) ≡ false → captures f (term_names (c.number x)) ≡ false
  pub arrays : (x : Sym) → captures f (array_names (c.array x)) ≡ false

-- many names at once, by lists in which the first pair of a name counts
abbrev pub change_in : Changes → Change
change_in c = record {
  number = λ x. unwrap_or (option_map (λ p. p.1) (find (λ p. same_sym p.0 x) c.numbers)) (name x);
  array = λ x. unwrap_or (option_map (λ p. p.1) (find (λ p. same_sym p.0 x) c.arrays)) (array x);
}
