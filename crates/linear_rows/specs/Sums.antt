-- Rows over unbounded numbers: their form, what they say at a point, and their sums.
use Rattle.std.specs.Prelude.{◌≡◌, ◌≤◌, ℕ, ℤ, pos, ◌+ℤ◌, ◌*ℤ◌, ◌≤ℤ◌, List, [], ◌∷◌, Bool, true, false, ◌&&◌, if◌then◌else◌, nat_eq, nat_lt, suc, ⊤}
use Rattle.std.specs.List.{list_all}
use Rattle.linear_rows.specs.declared.row.Row.{Row}
use Rattle.linear_rows.specs.Numbers.{fits, is_zero}

-- An atom's number and its coefficient.
abbrev pub Part : Type 0
Part = ℕ × ℤ

-- Atoms from `low` on, ascending, and no coefficient is 0.
abbrev pub From : ℕ → List Part → Type 0
From low [] = ⊤
From low (x ∷ xs) = (low ≤ x.0) × (is_zero x.1 ≡ false) × From (suc x.0) xs

-- Atoms ascend and no coefficient is 0.
abbrev pub IsInForm : Row → Type 0
IsInForm row = From 0 row.parts

-- Every coefficient is at most 2^100 in size.
abbrev pub all_fit : List Part → Bool
all_fit parts = list_all (λ part. fits part.1) parts

-- Every coefficient and the bound are at most 2^100 in size.
abbrev pub row_fits : Row → Bool
row_fits row = all_fit row.parts && fits row.bound

-- The coefficient of an atom, 0 where the row lacks it.
abbrev pub coefficient : ℕ → List Part → ℤ
coefficient atom [] = pos 0
coefficient atom (x ∷ xs) = if nat_eq x.0 atom then x.1 else coefficient atom xs

-- The sum of the parts at a point.
abbrev pub dot : (ℕ → ℤ) → List Part → ℤ
dot point [] = pos 0
dot point (x ∷ xs) = x.1 *ℤ point x.0 +ℤ dot point xs

-- The row is true at the point whose numbers stand over the denominator `den`.
pub record Holds (point : ℕ → ℤ) (den : ℤ) (row : Row) : Type 0 where
  pub below : dot point row.parts ≤ℤ (row.bound *ℤ den)
  pub tight : row.equal ≡ true → dot point row.parts ≡ row.bound *ℤ den

-- A part before others, unless its coefficient is 0.
abbrev pub before : Part → List Part → List Part
before part rest = if is_zero part.1 then rest else part ∷ rest

-- times * right
abbrev pub scaled : ℤ → List Part → List Part
scaled times [] = []
scaled times (y ∷ ys) = before (y.0, times *ℤ y.1) (scaled times ys)

-- The sum of a first part on the left and `right`, where `rest` gives the sum of what follows that part on the left.
abbrev pub joined : ℤ → Part → (List Part → List Part) → List Part → List Part
joined times x rest [] = before x (rest [])
joined times x rest (y ∷ ys) = if nat_lt x.0 y.0 then before x (rest (y ∷ ys))
    else if nat_lt y.0 x.0 then before (y.0, times *ℤ y.1) (joined times x rest ys)
    else before (x.0, x.1 +ℤ times *ℤ y.1) (rest ys)

-- left + times * right, the atoms of both in order.
abbrev pub sums : ℤ → List Part → List Part → List Part
sums times [] right = scaled times right
sums times (x ∷ xs) right = joined times x (sums times xs) right

-- The row left + times * right: an equality where both are.
abbrev pub plus_times : Row → ℤ → Row → Row
plus_times left times right = record {
  parts = sums times left.parts right.parts;
  bound = left.bound +ℤ times *ℤ right.bound;
  equal = left.equal && right.equal;
}
