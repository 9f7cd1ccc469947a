use Rattle.std.proofs.Common.{◌≡◌, ◌≤◌, ◌+◌, drop}
use Rattle.c_grammar.specs.Lexed as text
use Rattle.c_lexer.proofs.lexer.after_bytes.Given as goal

abbrev pub invariant-loop-byte : goal.invariant-loop-byte
invariant-loop-byte l = record {
  value : text.after_bytes l.at (drop l.byte-index l.bytes) ≡ text.after_bytes l.fn.place l.bytes;
  offset : l.at.offset ≡ l.fn.place.offset + l.byte-index;
  line : l.at.pos.line ≤ l.at.offset + 2147483648;
}
