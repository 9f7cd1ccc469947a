use Rattle.std.proofs.Common.{◌++◌, length}
use Rattle.name_tables.specs.Declarations.{function_number}
use Rattle.hint_texts.specs.Code.Reading.{statement_at, statements_in, grouped, items_of}
use Rattle.hint_texts.proofs.Turns.{IsLeft}
use Rattle.hint_texts.proofs.items.items.Given as goal

abbrev pub invariant-loop-rest : goal.invariant-loop-rest
invariant-loop-rest l = record {
  left : IsLeft (statement_at (function_number l.names)) (λ ss. grouped (statements_in l.items ++ ss)) l.rest (items_of (function_number l.names) l.tokens);
}

abbrev pub decreases-loop-rest : goal.decreases-loop-rest
decreases-loop-rest l = length l.rest
