use Rattle.std.proofs.Common.{◌++◌, Some, length}
use Rattle.name_tables.specs.Declarations.{function_number}
use Rattle.hint_texts.specs.Code.Reading.{part_at, parts_of}
use Rattle.hint_texts.proofs.Turns.{IsLeft}
use Rattle.hint_texts.proofs.formula.parts.Given as goal

abbrev pub invariant-loop-rest : goal.invariant-loop-rest
invariant-loop-rest l = record {
  left : IsLeft (part_at (function_number l.names)) (λ parts. Some (l.parts.items ++ parts)) l.rest (parts_of (function_number l.names) l.tokens);
}

abbrev pub decreases-loop-rest : goal.decreases-loop-rest
decreases-loop-rest l = length l.rest
