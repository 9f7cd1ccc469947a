use Rattle.std.proofs.Common.{◌≡◌, drop}
use Rattle.hint_reading.specs.Meaning.{cells_in}
use Rattle.hint_reading.proofs.clauses.cells_in.Given as goal

abbrev pub invariant-loop-clause : goal.invariant-loop-clause
invariant-loop-clause l = cells_in l.clauses ≡ cells_in (drop l.clause-index l.clauses)
