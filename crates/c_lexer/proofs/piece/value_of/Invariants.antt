use Rattle.std.proofs.Common.{◌≡◌, ◌≤◌, drop}
use Rattle.c_lexer.specs.Code.Reading.{value_from}
use Rattle.c_lexer.proofs.piece.value_of.Given as goal

abbrev pub invariant-loop-byte : goal.invariant-loop-byte
invariant-loop-byte l = record {
  value : value_from l.value (drop l.byte-index l.text) ≡ value_from 0 l.text;
  small : l.value ≤ 2147483647;
}
