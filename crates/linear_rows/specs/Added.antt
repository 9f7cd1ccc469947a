-- What adding answers.
use Rattle.std.specs.Prelude.{◌≡◌, ◌≤◌, ◌+◌, ℤ, List, true, false, drop, length, Result, Ok, Err, Vec, ⊤}
use Rattle.std.specs.declared.alloc.Global.{Global}
use Rattle.linear_rows.specs.declared.row.Row.{Row}
use Rattle.linear_rows.specs.declared.row.RowFail.{RowFail}
use Rattle.linear_rows.specs.declared.row.RowFail.TheVariants.{NoMemory, Wide}
use Rattle.linear_rows.specs.declared.sum.Front.{Front}
use Rattle.linear_rows.specs.Numbers.{kept}
use Rattle.linear_rows.specs.Sums.{Part, all_fit, row_fits, sums, before}

-- The exact row, or Wide exactly where a coefficient or the bound of it is past 2^100.
abbrev pub IsAdded : Row → Result Row RowFail → Type 0
IsAdded exact (Ok row) = (row ≡ exact) × (row_fits exact ≡ true)
IsAdded exact (Err Wide) = row_fits exact ≡ false
IsAdded exact (Err NoMemory) = ⊤

-- The exact parts, or Wide exactly where one of them is past 2^100.
abbrev pub IsMerged : List Part → Result (Vec Part Global) RowFail → Type 0
IsMerged exact (Ok parts) = (parts.items ≡ exact) × (all_fit exact ≡ true)
IsMerged exact (Err Wide) = all_fit exact ≡ false
IsMerged exact (Err NoMemory) = ⊤

-- The first part of a sum, and how many parts of each side it takes.
abbrev pub IsFront : ℤ → List Part → List Part → Front → Type 0
IsFront times left right front = (front.left_by ≤ length left) × (front.right_by ≤ length right) × (1 ≤ front.left_by + front.right_by) × ((exact : ℤ) × (front.coefficient ≡ kept exact)
    × (sums times left right ≡ before (front.atom, exact) (sums times (drop front.left_by left) (drop front.right_by right))))
