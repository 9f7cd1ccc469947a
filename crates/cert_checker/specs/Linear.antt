-- Linear sums. A number, a sum, a difference, and a product with a number as written are linear; every
-- other term is an atom. Atoms are equal where they are the same as written.
use Rattle.std.specs.Prelude.{ℤ, pos, negsuc, ◌+ℤ◌, ◌*ℤ◌, Bool, true, false, not, ◌&&◌, ◌||◌, if◌then◌else◌, List, [], ◌∷◌, ◌++◌, map, filter}
use Rattle.std.specs.List.{list_all}
use Rattle.terms.specs.Trees.{TermTree, number, plus, minus, times}
use Rattle.terms.specs.Valuations.{is_small}
use Rattle.terms.specs.Equality.{same_term}

-- a multiple of an atom
abbrev pub Multiple : Type 0
Multiple = TermTree × ℤ

-- Multiples of atoms and a constant. An atom may stand there several times.
pub record Sum : Type 0 where
  pub multiples : List Multiple
  pub constant : ℤ

abbrev pub scaled_multiples : ℤ → List Multiple → List Multiple
scaled_multiples c multiples = map (λ m. (m.0, c *ℤ m.1)) multiples

abbrev pub number_sum : ℤ → Sum
number_sum z = record { multiples = []; constant = z }

abbrev pub atom_sum : TermTree → Sum
atom_sum t = record { multiples = (t, pos 1) ∷ []; constant = pos 0 }

abbrev pub scaled_sum : ℤ → Sum → Sum
scaled_sum c s = record { multiples = scaled_multiples c s.multiples; constant = c *ℤ s.constant }

abbrev pub total : Sum → Sum → Sum
total s r = record { multiples = s.multiples ++ r.multiples; constant = s.constant +ℤ r.constant }

abbrev pub difference : Sum → Sum → Sum
difference s r = total s (scaled_sum (negsuc 0) r)

-- the product of two terms that stand for the given sums
abbrev pub product : TermTree → TermTree → Sum → Sum → Sum
product (number z) u s r = scaled_sum z r
product t (number z) s r = scaled_sum z s
product t u s r = atom_sum (times t u)

-- the sum that a term stands for
abbrev pub sum_of : TermTree → Sum
sum_of (number z) = number_sum z
sum_of (plus t u) = total (sum_of t) (sum_of u)
sum_of (minus t u) = difference (sum_of t) (sum_of u)
sum_of (times t u) = product t u (sum_of t) (sum_of u)
sum_of t = atom_sum t

abbrev pub is_number : TermTree → Bool
is_number (number z) = true
is_number t = false

-- the term, and the terms in it that stand outside all atoms
abbrev pub linear_terms : TermTree → List TermTree
linear_terms (plus t u) = plus t u ∷ (linear_terms t ++ linear_terms u)
linear_terms (minus t u) = minus t u ∷ (linear_terms t ++ linear_terms u)
linear_terms (times t u) = times t u ∷ (if is_number t || is_number u then linear_terms t ++ linear_terms u else [])
linear_terms t = t ∷ []

-- the atoms, each once, in the order of their first places
abbrev pub atoms : List Multiple → List TermTree
atoms [] = []
atoms (m ∷ ms) = m.0 ∷ filter (λ t. not (same_term m.0 t)) (atoms ms)

-- an atom's coefficient: what its multiples come to
abbrev pub coefficient : TermTree → List Multiple → ℤ
coefficient t [] = pos 0
coefficient t (m ∷ ms) = (if same_term t m.0 then m.1 else pos 0) +ℤ coefficient t ms

-- each atom once, with its coefficient
abbrev pub coefficients : List Multiple → List Multiple
coefficients ms = map (λ t. (t, coefficient t ms)) (atoms ms)

-- every coefficient is at most 2^100 in size
abbrev pub are_small : List Multiple → Bool
are_small ms = list_all (λ m. is_small m.1) (coefficients ms)

abbrev pub sum_is_small : Sum → Bool
sum_is_small s = are_small s.multiples && is_small s.constant
