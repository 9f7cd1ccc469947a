-- Combinations of rows over numbered atoms.
use Rattle.std.specs.Prelude.{◌≡◌, ℕ, ℤ, pos, Bool, true, ◌&&◌, ◌||◌, if◌then◌else◌, int_le, List, [], Option, Some, None, option_and_then, Result, Ok, Err, ⊤}
use Rattle.std.specs.declared.alloc.AllocError.{AllocError}
use Rattle.linear_rows.specs.declared.row.Row.{Row}
use Rattle.linear_rows.specs.Sums.{row_fits, plus_times}
use Rattle.terms.specs.declared.fact.Fact.{Fact}
use Rattle.terms.specs.Trees.{TermTree}
use Rattle.cert_checker.specs.Linear.{Sum}
use Rattle.cert_checker.specs.Rows.{Line, row_at, checked_plus, added, combination}
use Rattle.cert_checker.specs.Numbering.{with_atoms, IsRow}
use Rattle.cert_checker.specs.Code.SumRows.{IsSumRow}
use Rattle.cert_checker.specs.Code.Steps.{number_row}

abbrev pub IsRowAt : List Fact → ℕ → List TermTree → Result (Option Row) AllocError → List TermTree → Type 0
IsRowAt facts i old (Ok None) new = row_at facts i ≡ None
IsRowAt facts i old (Ok (Some row)) new = (line : Line) × (row_at facts i ≡ Some line) × IsRow new line row × (new ≡ with_atoms old line.multiples)
IsRowAt facts i old (Err e) new = ⊤

abbrev pub may_add : Row → ℤ → Row → Bool
may_add sum times row = (row.equal || int_le (pos 0) times) && (row_fits (number_row times) && row_fits (plus_times sum times row))

abbrev pub IsCheckedSum : Row → ℤ → Row → Result (Option Row) AllocError → Type 0
IsCheckedSum sum times row (Ok made) = made ≡ (if may_add sum times row then Some (plus_times sum times row) else None)
IsCheckedSum sum times row (Err e) = ⊤

-- a line as a sum
abbrev pub sum_for : Line → Sum
sum_for line = record { multiples = line.multiples; constant = line.bound }

-- the row of a combination, over its own atoms
pub record IsCombined (line : Line) (row : Row) (atoms : List TermTree) : Type 0 where
  pub is_row : IsSumRow atoms (sum_for line) row
  pub equal : row.equal ≡ line.is_equality
  pub fits : row_fits row ≡ true
  pub atoms_are : atoms ≡ with_atoms [] line.multiples

abbrev pub Combines : List Fact → List (ℕ × ℤ) → Result (Option Row) AllocError → List TermTree → Type 0
Combines facts pairs (Ok None) atoms = combination facts pairs ≡ None
Combines facts pairs (Ok (Some row)) atoms = (line : Line) × (combination facts pairs ≡ Some line) × IsCombined line row atoms
Combines facts pairs (Err e) atoms = ⊤

-- one row more
abbrev pub next_line : List Fact → ℕ → ℤ → Line → Option Line
next_line facts i times line = option_and_then (checked_plus line times) (row_at facts i)

abbrev pub AddsTo : List Fact → ℕ → ℤ → Line → Result (Option Row) AllocError → List TermTree → Type 0
AddsTo facts i times line (Ok None) atoms = next_line facts i times line ≡ None
AddsTo facts i times line (Ok (Some row)) atoms = (next : Line) × (next_line facts i times line ≡ Some next) × IsCombined next row atoms
AddsTo facts i times line (Err e) atoms = ⊤

-- a combination up to some pair
pub record IsAdding (facts : List Fact) (pairs rest : List (ℕ × ℤ)) (sum : Row) (atoms : List TermTree) : Type 0 where
  pub line : Line
  pub left : added facts rest line ≡ combination facts pairs
  pub is : IsCombined line sum atoms
