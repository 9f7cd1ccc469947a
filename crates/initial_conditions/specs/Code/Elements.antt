-- What is known of an array at the start, in two parts: the elements up to the last one that isn't 0, and the others.
use Rattle.std.specs.Prelude.{ℕ, suc, ℤ, pos, if◌then◌else◌, List, [], ◌∷◌}
use Rattle.terms.specs.declared.sym.Sym.{Sym}
use Rattle.terms.specs.declared.fact.Fact.{Fact}
use Rattle.terms.specs.declared.fact.Fact.TheVariants as fact
use Rattle.terms.specs.Trees.{number, name, read, array, equal}
use Rattle.loop_invariants.specs.EntryNames.{bound}
use Rattle.weakest_preconditions.specs.Conditions.{all_zero}

-- the elements up to the last one that isn't 0
abbrev pub without_trailing_zeros : List ℤ → List ℤ
without_trailing_zeros [] = []
without_trailing_zeros (z ∷ zs) = if all_zero (z ∷ zs) then [] else z ∷ without_trailing_zeros zs

-- the element at the place k
abbrev pub element_is : Sym → ℕ → ℤ → Fact
element_is a k z = fact.Plain (equal (read (array a) (number (pos k))) (number z))

-- these elements, the first of them at the place k
abbrev pub each_is : Sym → ℕ → List ℤ → List Fact
each_is a k [] = []
each_is a k (z ∷ zs) = element_is a k z ∷ each_is a (suc k) zs

-- the elements from the place k on, n in all, are 0
abbrev pub others_are_zero : Sym → ℕ → ℕ → Fact
others_are_zero a k n = fact.All bound (number (pos k)) (number (pos n)) (equal (read (array a) (name bound)) (number (pos 0)))
