-- The rows of sums, whose bound is the sum's constant.
use Rattle.std.specs.Prelude.{◌≡◌, ℕ, ℤ, true, List}
use Rattle.linear_rows.specs.declared.row.Row.{Row}
use Rattle.linear_rows.specs.Sums.{IsInForm, dot}
use Rattle.terms.specs.Trees.{TermTree}
use Rattle.cert_checker.specs.Linear.{Sum}
use Rattle.cert_checker.specs.Numbering.{at_point, have_numbers}

pub record IsSumRow (atoms : List TermTree) (s : Sum) (row : Row) : Type 0 where
  pub in_form : IsInForm row
  pub parts : (point : ℕ → ℤ) → dot point row.parts ≡ at_point point atoms s.multiples
  pub bound : row.bound ≡ s.constant
  pub numbered : have_numbers atoms s.multiples ≡ true
