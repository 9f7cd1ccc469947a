use Rattle.std.proofs.Common.{◌++◌, Some, length}
use Rattle.hint_texts.specs.Code.Reading.{next_at, more_names}
use Rattle.hint_texts.proofs.Turns.{IsLeft}
use Rattle.hint_texts.proofs.statement.more_names.Given as goal

abbrev pub invariant-loop-rest : goal.invariant-loop-rest
invariant-loop-rest l = record {
  left : IsLeft next_at (λ names. Some (l.names ++ names)) l.rest (more_names l.first l.tokens);
}

abbrev pub decreases-loop-rest : goal.decreases-loop-rest
decreases-loop-rest l = length l.rest
