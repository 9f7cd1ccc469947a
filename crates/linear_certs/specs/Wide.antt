-- Pairs that are too large to be combined.
use Rattle.std.specs.Prelude.{◌≡◌, ℕ, List, Bool, true, false, ◌&&◌, Some}
use Rattle.std.specs.List.{Contains, list_all}
use Rattle.linear_rows.specs.Numbers.{fits}
use Rattle.linear_rows.specs.declared.row.Row.{Row}
use Rattle.linear_rows.specs.Sums.{row_fits}
use Rattle.linear_rows.specs.Combinations.{nothing, all_sums_fit}
use Rattle.linear_certs.specs.declared.entry.Entry.{Entry}
use Rattle.linear_certs.specs.Stages.{multiple, combined, upper_times, lower_times, is_upper, is_lower, least_atom}

-- The two multiples, their sum and the sum's multipliers are at most 2^100 in size.
abbrev pub numbers_fit : ℕ → Entry → Entry → Bool
numbers_fit atom upper lower = (row_fits (multiple (upper_times atom upper lower) upper.row) && row_fits (multiple (lower_times atom upper lower) lower.row))
    && (row_fits (combined atom upper lower).row && list_all fits (combined atom upper lower).multipliers)

-- And so are the partial sums of the given rows with these multipliers, added in order.
abbrev pub is_narrow : List Row → ℕ → Entry → Entry → Bool
is_narrow rows atom upper lower = numbers_fit atom upper lower && all_sums_fit nothing rows (combined atom upper lower).multipliers

-- A pair of a stage is wide.
pub record IsWidePair (rows : List Row) (entries : List Entry) (atom : ℕ) (upper lower : Entry) : Type 0 where
  pub least : least_atom entries ≡ Some atom
  pub upper_in : Contains entries upper
  pub lower_in : Contains entries lower
  pub above : is_upper atom upper ≡ true
  pub below : is_lower atom lower ≡ true
  pub wide : is_narrow rows atom upper lower ≡ false
