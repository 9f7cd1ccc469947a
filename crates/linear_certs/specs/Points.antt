-- The point of the stages, and how large its numbers may become.
use Rattle.std.specs.Prelude.{◌≡◌, ◌≤◌, ◌<◌, ℕ, ◌+◌, ◌*◌, ◌^◌, ℤ, pos, ◌*ℤ◌, ◌≤ℤ◌, ◌<ℤ◌, List, [], ◌∷◌, Bool, true, false, length, Some, nat_eq, if◌then◌else◌, unsigned_abs, ◌⊎◌}
use Rattle.std.specs.List.{All, Contains, list_any}
use Rattle.std.specs.Int.{◌∣◌}
use Rattle.linear_rows.specs.declared.row.Row.{Row}
use Rattle.linear_rows.specs.Sums.{Part, dot}
use Rattle.linear_certs.specs.declared.entry.Entry.{Entry}
use Rattle.linear_certs.specs.Stages.{stage, least_atom, is_upper, is_lower}

-- The row of the entry, an inequality, is true at the point, or is an equation there.
abbrev pub HoldsAt : (ℕ → ℤ) → ℤ → Entry → Type 0
HoldsAt point den entry = dot point entry.row.parts ≤ℤ (entry.row.bound *ℤ den)

abbrev pub IsTight : (ℕ → ℤ) → ℤ → Entry → Type 0
IsTight point den entry = dot point entry.row.parts ≡ entry.row.bound *ℤ den

-- The rows of one side set a bound, and the point reaches it: all of them are true, and one is an equation.
pub record IsReached (side : Entry → Bool) (point : ℕ → ℤ) (den : ℤ) (entries : List Entry) : Type 0 where
  pub all : All (λ entry. side entry ≡ true → HoldsAt point den entry) entries
  pub one : (entry : Entry) × (Contains entries entry × (side entry ≡ true) × IsTight point den entry)

abbrev pub HasNone : (Entry → Bool) → List Entry → Type 0
HasNone side entries = All (λ entry. side entry ≡ false) entries

-- The value of an atom: the greatest lower bound, where there is none the least upper bound, and where there is none of these 0.
abbrev pub IsValue : (ℕ → ℤ) → ℤ → ℕ → List Entry → Type 0
IsValue point den atom entries = IsReached (is_lower atom) point den entries
    ⊎ (HasNone (is_lower atom) entries × (IsReached (is_upper atom) point den entries ⊎ (HasNone (is_upper atom) entries × (point atom ≡ pos 0))))

-- Nothing but 1 divides the denominator and all numerators.
abbrev pub IsLowest : (ℕ → ℤ) → ℤ → Type 0
IsLowest point den = (d : ℕ) → d ∣ unsigned_abs den → ((atom : ℕ) → d ∣ unsigned_abs (point atom)) → d ≡ 1

-- The point after the atoms of the stages from `from` on have their values, over a common denominator in lowest terms. The other atoms are 0.
pub record IsPartialPoint (rows : List Row) (from : ℕ) (point : ℕ → ℤ) (den : ℤ) : Type 0 where
  pub positive : pos 0 <ℤ den
  pub values : (k : ℕ) (atom : ℕ) → from ≤ k → least_atom (stage rows k) ≡ Some atom → IsValue point den atom (stage rows k)
  pub others : (atom : ℕ) → ((k : ℕ) → from ≤ k → least_atom (stage rows k) ≡ Some atom → ⊥) → point atom ≡ pos 0
  pub lowest : IsLowest point den

-- The atoms of the rows, each once.
abbrev pub added_atom : ℕ → List ℕ → List ℕ
added_atom atom atoms = if list_any (nat_eq atom) atoms then atoms else atom ∷ atoms

abbrev pub atoms_of_parts : List Part → List ℕ → List ℕ
atoms_of_parts [] atoms = atoms
atoms_of_parts (x ∷ xs) atoms = added_atom x.0 (atoms_of_parts xs atoms)

abbrev pub atoms_of : List Row → List ℕ
atoms_of [] = []
atoms_of (row ∷ rows) = atoms_of_parts row.parts (atoms_of rows)

-- The size bound of the point: `coefficient` and `bound` are the sizes of a coefficient and of a bound in the stages, `den` and `num` of a denominator and of a numerator.
abbrev pub size_bound : ℕ → ℕ → ℕ → ℕ → ℕ → ℕ
size_bound atoms coefficient bound den num = (bound * den + atoms * coefficient * num + 1) * coefficient * den

-- The sizes that occur: of a coefficient and of a bound in the stages, and of a denominator and of a numerator of the point after any number of its atoms, up to and with that of stage `from`.
abbrev pub IsCoefficientSize : List Row → ℕ → Type 0
IsCoefficientSize rows size = (k : ℕ) × ((entry : Entry) × ((part : Part) × (Contains (stage rows k) entry × Contains entry.row.parts part × (unsigned_abs part.1 ≡ size))))

abbrev pub IsBoundSize : List Row → ℕ → Type 0
IsBoundSize rows size = (k : ℕ) × ((entry : Entry) × (Contains (stage rows k) entry × (unsigned_abs entry.row.bound ≡ size)))

abbrev pub IsDenominatorSize : List Row → ℕ → ℕ → Type 0
IsDenominatorSize rows from size = (k : ℕ) × ((point : ℕ → ℤ) × ((den : ℤ) × ((from ≤ k) × IsPartialPoint rows k point den × (unsigned_abs den ≡ size))))

abbrev pub IsNumeratorSize : List Row → ℕ → ℕ → Type 0
IsNumeratorSize rows from size = (k : ℕ) × ((point : ℕ → ℤ) × ((den : ℤ) × ((atom : ℕ) × ((from ≤ k) × IsPartialPoint rows k point den × (unsigned_abs (point atom) ≡ size)))))

-- At the stage of the atom, sizes that occur make a size bound past 2^120. It grows with each of them, so that of the largest ones is past it too.
pub record IsFar (rows : List Row) (atom : ℕ) : Type 0 where
  pub from : ℕ
  pub least : least_atom (stage rows from) ≡ Some atom
  pub coefficient : ℕ
  pub bound : ℕ
  pub den : ℕ
  pub num : ℕ
  pub coefficient_occurs : IsCoefficientSize rows coefficient
  pub bound_occurs : IsBoundSize rows bound
  pub den_occurs : IsDenominatorSize rows from den
  pub num_occurs : IsNumeratorSize rows from num
  pub large : 2 ^ 120 < size_bound (length (atoms_of rows)) coefficient bound den num
