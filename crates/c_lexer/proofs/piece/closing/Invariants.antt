use Rattle.std.proofs.Common.{◌≡◌, ◌+◌, length}
use Rattle.c_lexer.specs.Code.Reading.{closing}
use Rattle.c_lexer.proofs.piece.closing.Given as goal

abbrev pub invariant-loop-text : goal.invariant-loop-text
invariant-loop-text l = record {
  value : closing l.passed l.text ≡ closing 0 l.initial.text;
  within : l.passed + length l.text ≡ length l.initial.text;
}

abbrev pub decreases-loop-text : goal.decreases-loop-text
decreases-loop-text l = length l.text
