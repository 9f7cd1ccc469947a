use Rattle.std.proofs.Common.{◌≤◌, length}
use Rattle.formula_texts.specs.Code.Lexing.{tokens_in}
use Rattle.formula_texts.proofs.LexTurns.{IsLeft}
use Rattle.formula_texts.proofs.lexer.tokens_of.Given as goal

abbrev pub invariant-loop-rest : goal.invariant-loop-rest
invariant-loop-rest l = record { left : IsLeft l.tokens.items l.rest (tokens_in l.text); shorter : length l.rest ≤ length l.text }

abbrev pub decreases-loop-rest : goal.decreases-loop-rest
decreases-loop-rest l = length l.rest
