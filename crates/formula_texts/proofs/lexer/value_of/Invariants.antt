use Rattle.std.proofs.Common.{◌≡◌, ◌≤◌, drop}
use Rattle.formula_texts.specs.Code.Lexing.{value_from}
use Rattle.formula_texts.proofs.lexer.value_of.Given as goal

abbrev pub invariant-loop-byte : goal.invariant-loop-byte
invariant-loop-byte l = record {
  value : value_from l.limit l.value (drop l.byte-index l.digits) ≡ value_from l.limit 0 l.digits;
  small : l.value ≤ l.limit;
}
