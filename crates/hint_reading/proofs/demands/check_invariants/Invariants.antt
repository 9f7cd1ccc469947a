use Rattle.std.proofs.Common.{◌≡◌, drop}
use Rattle.hint_reading.specs.Demands.{first_unmet}
use Rattle.hint_reading.specs.Code.Parts.{loop_demands}
use Rattle.hint_reading.proofs.demands.check_invariants.Given as goal

abbrev pub invariant-loop-clause : goal.invariant-loop-clause
invariant-loop-clause l = first_unmet (loop_demands l.allowed.program l.allowed.place l.clauses)
    ≡ first_unmet (loop_demands l.allowed.program l.allowed.place (drop l.clause-index l.clauses))
