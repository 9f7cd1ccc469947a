use Rattle.std.proofs.Common.{◌++◌, ◌+◌, ◌≤◌, Some, length}
use Rattle.hint_texts.specs.Tokens.{placed}
use Rattle.hint_texts.specs.Code.Lexing.{piece_at, tokens_in}
use Rattle.hint_texts.proofs.Turns.{IsLeft}
use Rattle.hint_texts.proofs.lexer.tokens_of.Given as goal

abbrev pub invariant-loop-rest : goal.invariant-loop-rest
invariant-loop-rest l = record {
  left : IsLeft piece_at (λ pieces. Some (l.tokens.items ++ placed l.line pieces)) l.rest (tokens_in l.text);
  lines : l.line + length l.rest ≤ 1 + length l.text;
}

abbrev pub decreases-loop-rest : goal.decreases-loop-rest
decreases-loop-rest l = length l.rest
