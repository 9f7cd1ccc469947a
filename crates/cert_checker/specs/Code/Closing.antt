-- Rows that are false.
use Rattle.std.specs.Prelude.{pos, Bool, true, false, not, ◌&&◌, ◌||◌, int_lt, List, [], ◌∷◌}
use Rattle.linear_rows.specs.declared.row.Row.{Row}
use Rattle.linear_rows.specs.Numbers.{is_zero}
use Rattle.linear_rows.specs.Sums.{Part}

abbrev pub is_nil : List Part → Bool
is_nil [] = true
is_nil (p ∷ ps) = false

abbrev pub row_is_false : Row → Bool
row_is_false row = is_nil row.parts && (int_lt row.bound (pos 0) || (row.equal && not (is_zero row.bound)))
