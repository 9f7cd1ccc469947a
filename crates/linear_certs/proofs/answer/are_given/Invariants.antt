use Rattle.std.proofs.Common.{◌≡◌, take, true}
use Rattle.std.specs.List.{All}
use Rattle.linear_rows.specs.Sums.{IsInForm, row_fits}
use Rattle.linear_certs.proofs.answer.are_given.Given as goal

abbrev pub invariant-loop-row : goal.invariant-loop-row
invariant-loop-row l = All IsInForm (take l.row-index l.rows) × All (λ row. row_fits row ≡ true) (take l.row-index l.rows)
