-- Difference rows, and the cycles that refute them.
use Rattle.std.specs.Prelude.{◌≡◌, ◌≤◌, ◌<◌, ℕ, ◌^◌, ℤ, pos, ◌+ℤ◌, ◌≤ℤ◌, ◌<ℤ◌, neg_ℤ, List, [], ◌∷◌, length, get_or, Option, None, Some, ⊤}
use Rattle.std.specs.List.{All}
use Rattle.diff_certs.specs.declared.row.DiffRow.{DiffRow}

-- Integers for the names. A missing side is 0.
abbrev pub side : (ℕ → ℤ) → Option ℕ → ℤ
side values None = pos 0
side values (Some name) = values name

-- left - right ≤ bound
abbrev pub Satisfies : (ℕ → ℤ) → DiffRow → Type 0
Satisfies values row = side values row.left ≤ℤ (side values row.right +ℤ row.bound)

abbrev pub SatisfiesAll : (ℕ → ℤ) → List DiffRow → Type 0
SatisfiesAll values rows = All (Satisfies values) rows

-- No integers satisfy all rows.
abbrev pub AreRefuted : List DiffRow → Type 0
AreRefuted rows = (values : ℕ → ℤ) → SatisfiesAll values rows → ⊥

abbrev pub IsName : Option ℕ → Type 0
IsName None = ⊤
IsName (Some name) = name < 64

-- Names below 64, and a bound of at most 2^40 in size.
pub record IsInside (row : DiffRow) : Type 0 where
  pub left : IsName row.left
  pub right : IsName row.right
  pub low : neg_ℤ (pos (2 ^ 40)) ≤ℤ row.bound
  pub high : row.bound ≤ℤ pos (2 ^ 40)

-- A side as a number: a name is itself, and 0 is 64.
abbrev pub node : Option ℕ → ℕ
node None = 64
node (Some name) = name

abbrev pub no_row : DiffRow
no_row = record { left = None; right = None; bound = pos 0 }

abbrev pub row_at : List DiffRow → ℕ → DiffRow
row_at rows k = get_or rows k no_row

abbrev pub left_at : List DiffRow → ℕ → ℕ
left_at rows k = node (row_at rows k).left

abbrev pub right_at : List DiffRow → ℕ → ℕ
right_at rows k = node (row_at rows k).right

-- Rows by their numbers, each one's right side being the left side of the next.
abbrev pub Chain : List DiffRow → ℕ → List ℕ → ℕ → Type 0
Chain rows first [] last = first ≡ last
Chain rows first (k ∷ ks) last = (k < length rows) × (left_at rows k ≡ first) × Chain rows (right_at rows k) ks last

abbrev pub total : List DiffRow → List ℕ → ℤ
total rows [] = pos 0
total rows (k ∷ ks) = (row_at rows k).bound +ℤ total rows ks

-- At most 65 rows that lead from a side back to it, with bounds that add up to less than 0.
pub record IsCycle (rows : List DiffRow) (cycle : List ℕ) : Type 0 where
  pub closed : (start : ℕ) × Chain rows start cycle start
  pub short : length cycle ≤ 65
  pub negative : total rows cycle <ℤ pos 0
