-- What the elimination answers.
use Rattle.std.specs.Prelude.{◌≡◌, ◌≤◌, ◌<◌, ℕ, ℤ, pos, ◌<ℤ◌, List, true, false, length, get_or, ⊤}
use Rattle.std.specs.List.{All}
use Rattle.linear_rows.specs.declared.row.Row.{Row}
use Rattle.linear_rows.specs.Sums.{Holds}
use Rattle.linear_rows.specs.Combinations.{nothing, combination, all_sums_fit, AreAllowed, IsConstantFalse}
use Rattle.linear_certs.specs.declared.entry.Entry.{Entry}
use Rattle.linear_certs.specs.declared.leaf.Leaf.{Leaf}
use Rattle.linear_certs.specs.declared.leaf.Leaf.TheVariants.{Found, Point, Wide, Far, Rows, NoMemory}
use Rattle.linear_certs.specs.Stages.{stage, has_false}
use Rattle.linear_certs.specs.Wide.{IsWidePair}
use Rattle.linear_certs.specs.Points.{IsFar}

-- No stage up to this one has a constant false row.
abbrev pub NoFalseUpTo : List Row → ℕ → Type 0
NoFalseUpTo rows k = (j : ℕ) → j ≤ k → has_false (stage rows j) ≡ false

-- One multiplier for each row, negative only for an equality. The rows with these multipliers, added in order, come to a constant that is false, and no partial sum passes 2^100.
pub record IsRefutation (rows : List Row) (multipliers : List ℤ) : Type 0 where
  pub count : length multipliers ≡ length rows
  pub allowed : AreAllowed rows multipliers
  pub closes : IsConstantFalse (combination rows multipliers)
  pub narrow : all_sums_fit nothing rows multipliers ≡ true

-- An atom's number over the denominator, 0 where none is given.
abbrev pub coordinate : List ℤ → ℕ → ℤ
coordinate nums atom = get_or nums atom (pos 0)

-- The answer is a wide pair of a stage, and no stage up to it has a constant false row.
abbrev pub IsWideAt : List Row → Row → Row → ℕ → Type 0
IsWideAt rows left right atom = (k : ℕ) × ((upper : Entry) × ((lower : Entry) × ((upper.row ≡ left) × (lower.row ≡ right) × IsWidePair rows (stage rows k) atom upper lower × NoFalseUpTo rows k)))

-- A stage has more than 20,000 rows, and no stage before it has a constant false row.
abbrev pub HasLargeStage : List Row → Type 0
HasLargeStage rows = (k : ℕ) × ((20000 < length (stage rows k)) × ((j : ℕ) → j < k → has_false (stage rows j) ≡ false))

abbrev pub IsLeaf : List Row → Leaf → Type 0
IsLeaf rows (Found multipliers) = IsRefutation rows multipliers.items
IsLeaf rows (Point den nums) = (pos 0 <ℤ den) × All (Holds (coordinate nums.items) den) rows
IsLeaf rows (Wide left right atom) = IsWideAt rows left right atom
IsLeaf rows (Far atom) = ((k : ℕ) → has_false (stage rows k) ≡ false) × IsFar rows atom
IsLeaf rows (Rows most) = (most ≡ 20000) × HasLargeStage rows
IsLeaf rows NoMemory = ⊤

-- A stage has a constant false row, no stage before it has a wide pair, and no stage up to it has more than 20,000 rows.
pub record EliminationRefutes (rows : List Row) : Type 0 where
  pub number : ℕ
  pub false_row : has_false (stage rows number) ≡ true
  pub narrow : (j atom : ℕ) (upper lower : Entry) → j < number → IsWidePair rows (stage rows j) atom upper lower → ⊥
  pub small : (j : ℕ) → j ≤ number → length (stage rows j) ≤ 20000

abbrev pub IsFoundOrNoMemory : Leaf → Type 0
IsFoundOrNoMemory (Found multipliers) = ⊤
IsFoundOrNoMemory NoMemory = ⊤
IsFoundOrNoMemory (Point den nums) = ⊥
IsFoundOrNoMemory (Wide left right atom) = ⊥
IsFoundOrNoMemory (Far atom) = ⊥
IsFoundOrNoMemory (Rows most) = ⊥
