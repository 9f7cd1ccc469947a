-- Rows with multipliers, added in order.
use Rattle.std.specs.Prelude.{◌≡◌, ℕ, ℤ, pos, ◌≤ℤ◌, ◌<ℤ◌, List, [], ◌∷◌, Bool, true, ◌&&◌, ◌⊎◌, ⊤}
use Rattle.std.specs.List.{All}
use Rattle.linear_rows.specs.declared.row.Row.{Row}
use Rattle.linear_rows.specs.Numbers.{fits}
use Rattle.linear_rows.specs.Sums.{row_fits, plus_times, Holds}

-- The sum of no rows: 0 = 0.
abbrev pub nothing : Row
nothing = record { parts = []; bound = pos 0; equal = true }

-- The first rows with the first multipliers, added to a sum in order.
abbrev pub added : Row → List Row → List ℤ → Row
added sum [] multipliers = sum
added sum (row ∷ rows) [] = sum
added sum (row ∷ rows) (times ∷ multipliers) = added (plus_times sum times row) rows multipliers

abbrev pub combination : List Row → List ℤ → Row
combination rows multipliers = added nothing rows multipliers

-- Every multiplier and every partial sum is at most 2^100 in size.
abbrev pub all_sums_fit : Row → List Row → List ℤ → Bool
all_sums_fit sum [] multipliers = row_fits sum
all_sums_fit sum (row ∷ rows) [] = row_fits sum
all_sums_fit sum (row ∷ rows) (times ∷ multipliers) = row_fits sum && fits times && all_sums_fit (plus_times sum times row) rows multipliers

-- Multipliers are negative only for equalities.
abbrev pub AreAllowed : List Row → List ℤ → Type 0
AreAllowed [] multipliers = ⊤
AreAllowed (row ∷ rows) [] = ⊤
AreAllowed (row ∷ rows) (times ∷ multipliers) = ((pos 0 ≤ℤ times) ⊎ (row.equal ≡ true)) × AreAllowed rows multipliers

-- A row without parts that says 0 <= b, or 0 = b, of a number b where that is false.
pub record IsConstantFalse (row : Row) : Type 0 where
  pub constant : row.parts ≡ []
  pub fails : (row.bound <ℤ pos 0) ⊎ ((row.equal ≡ true) × (pos 0 <ℤ row.bound))

-- No point over a positive denominator makes all rows true.
abbrev pub AreUnsatisfiable : List Row → Type 0
AreUnsatisfiable rows = (point : ℕ → ℤ) (den : ℤ) → pos 0 <ℤ den → All (Holds point den) rows → ⊥
