-- What the parts of the code answer.
use Rattle.std.specs.Prelude.{◌≡◌, ◌≤◌, ◌<◌, ◌^◌, unsigned_abs, ℕ, suc, ℤ, pos, ◌+ℤ◌, ◌*ℤ◌, List, [], ◌∷◌, true, false, ◌&&◌, Some, None, Result, Ok, Err, length, get_or, ⊤, Vec}
use Rattle.std.specs.declared.alloc.Global.{Global}
use Rattle.std.specs.List.{All, Contains, list_all}
use Rattle.linear_rows.specs.declared.row.Row.{Row}
use Rattle.linear_rows.specs.declared.row.RowFail.{RowFail}
use Rattle.linear_rows.specs.declared.row.RowFail.TheVariants.{NoMemory, Wide}
use Rattle.linear_rows.specs.Numbers.{fits}
use Rattle.linear_rows.specs.Sums.{row_fits, dot, From, IsInForm}
use Rattle.linear_rows.specs.Combinations.{AreAllowed}
use Rattle.linear_certs.specs.declared.entry.Entry.{Entry}
use Rattle.linear_certs.specs.declared.mix.Halves.{Halves}
use Rattle.linear_certs.specs.declared.elimination.Stage.{Stage}
use Rattle.linear_certs.specs.declared.elimination.Elimination.{Elimination}
use Rattle.linear_certs.specs.Stages.{multiple, mixed, mixed_multipliers, combined, is_false, least_atom, stage}
use Rattle.linear_certs.specs.Wide.{numbers_fit}
use Rattle.linear_certs.specs.Answers.{NoFalseUpTo}

abbrev pub IsMixedRow : ℤ → Row → ℤ → Row → Result Row RowFail → Type 0
IsMixedRow a left b right (Ok row) = (row ≡ mixed a left b right) × (row_fits row ≡ true)
IsMixedRow a left b right (Err Wide) = (row_fits (multiple a left) && row_fits (mixed a left b right)) ≡ false
IsMixedRow a left b right (Err NoMemory) = ⊤

-- The number, or Wide only where it is past 2^100 in size.
abbrev pub IsNumber : ℤ → Result ℤ RowFail → Type 0
IsNumber exact (Ok number) = (number ≡ exact) × (fits exact ≡ true)
IsNumber exact (Err Wide) = fits exact ≡ false
IsNumber exact (Err NoMemory) = ⊤

-- The number by its halves, of which each is at most 2^50 in size.
pub record IsHalved (number : ℤ) (halves : Halves) : Type 0 where
  pub value : number ≡ halves.high *ℤ pos (2 ^ 50) +ℤ halves.low
  pub high : unsigned_abs halves.high ≤ 2 ^ 50
  pub low : unsigned_abs halves.low ≤ 2 ^ 50

abbrev pub IsMixedList : ℤ → List ℤ → ℤ → List ℤ → Result (Vec ℤ Global) RowFail → Type 0
IsMixedList a left b right (Ok sums) = (sums.items ≡ mixed_multipliers a left b right) × (list_all fits sums.items ≡ true)
IsMixedList a left b right (Err Wide) = list_all fits (mixed_multipliers a left b right) ≡ false
IsMixedList a left b right (Err NoMemory) = ⊤

-- The sum of the pair, or Wide only where one of its numbers is past 2^100.
abbrev pub IsCombined : ℕ → Entry → Entry → Result Entry RowFail → Type 0
IsCombined atom upper lower (Ok entry) = (entry ≡ combined atom upper lower) × (row_fits entry.row ≡ true) × (list_all fits entry.multipliers ≡ true)
IsCombined atom upper lower (Err Wide) = numbers_fit atom upper lower ≡ false
IsCombined atom upper lower (Err NoMemory) = ⊤

-- What the rows come to with multipliers, where `value` says what one row comes to.
abbrev pub weighed : (Row → ℤ) → List Row → List ℤ → ℤ
weighed value [] multipliers = pos 0
weighed value (row ∷ rows) [] = pos 0
weighed value (row ∷ rows) (times ∷ multipliers) = times *ℤ value row +ℤ weighed value rows multipliers

-- The entry's row is what its multipliers make of the rows.
pub record IsDerived (rows : List Row) (entry : Entry) : Type 0 where
  pub count : length entry.multipliers ≡ length rows
  pub parts : (point : ℕ → ℤ) → dot point entry.row.parts ≡ weighed (λ row. dot point row.parts) rows entry.multipliers
  pub bound : entry.row.bound ≡ weighed (λ row. row.bound) rows entry.multipliers
  pub allowed : AreAllowed rows entry.multipliers

-- What is known of each entry of a stage that was built.
pub record IsGood (rows : List Row) (entry : Entry) : Type 0 where
  pub derived : IsDerived rows entry
  pub form : IsInForm entry.row
  pub strict : entry.row.equal ≡ false
  pub narrow : row_fits entry.row ≡ true
  pub small : list_all fits entry.multipliers ≡ true
  pub not_false : is_false entry ≡ false

-- An inequality of a given row: all that is known of an entry but that it isn't constant and false.
pub record IsOpening (rows : List Row) (entry : Entry) : Type 0 where
  pub derived : IsDerived rows entry
  pub form : IsInForm entry.row
  pub strict : entry.row.equal ≡ false
  pub narrow : row_fits entry.row ≡ true
  pub small : list_all fits entry.multipliers ≡ true

-- The row of this number, in form and with numbers of at most 2^100.
pub record IsGiven (rows : List Row) (number : ℕ) (row : Row) : Type 0 where
  pub within : number < length rows
  pub is : row ≡ get_or rows number row
  pub form : IsInForm row
  pub narrow : row_fits row ≡ true

-- Rows in form with numbers of at most 2^100 in size.
pub record AreGiven (rows : List Row) : Type 0 where
  pub form : All IsInForm rows
  pub narrow : All (λ row. row_fits row ≡ true) rows

-- Two entries of one stage, where no stage so far has a constant false row.
pub record IsPair (rows : List Row) (atom : ℕ) (upper lower : Entry) : Type 0 where
  pub number : ℕ
  pub none_false : NoFalseUpTo rows number
  pub least : least_atom (stage rows number) ≡ Some atom
  pub upper_in : Contains (stage rows number) upper
  pub lower_in : Contains (stage rows number) lower
  pub upper_from : From atom upper.row.parts
  pub lower_from : From atom lower.row.parts
  pub upper_good : IsGood rows upper
  pub lower_good : IsGood rows lower

-- A stage that was built, with its least atom, where no stage so far has a constant false row.
pub record IsBuilt (rows : List Row) (atom : ℕ) (entries : List Entry) : Type 0 where
  pub number : ℕ
  pub is : stage rows number ≡ entries
  pub none_false : NoFalseUpTo rows number
  pub least : least_atom entries ≡ Some atom
  pub good : All (IsGood rows) entries
  pub from : All (λ e. From atom e.row.parts) entries

-- A stage that was built, by its number.
pub record IsStageAt (rows : List Row) (number : ℕ) (built : Stage) : Type 0 where
  pub is : stage rows number ≡ built.entries
  pub least : least_atom built.entries ≡ Some built.atom
  pub good : All (IsGood rows) built.entries

-- Stages that were built, from this number on.
abbrev pub AreStages : List Row → ℕ → List Stage → Type 0
AreStages rows number [] = ⊤
AreStages rows number (built ∷ more) = IsStageAt rows number built × AreStages rows (suc number) more

-- All stages with an atom were built, the last one has none, and no stage has a constant false row.
pub record IsEliminated (rows : List Row) (whole : Elimination) : Type 0 where
  pub stages : AreStages rows 0 whole.stages
  pub last : stage rows (length whole.stages) ≡ whole.last
  pub none : least_atom whole.last ≡ None
  pub good : All (IsGood rows) whole.last
  pub none_false : NoFalseUpTo rows (length whole.stages)
