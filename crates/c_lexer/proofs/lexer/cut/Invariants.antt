use Rattle.std.proofs.Common.{◌≡◌, ◌≤◌, ◌+◌, length}
use Rattle.c_lexer.specs.Code.Reading as spec
use Rattle.c_lexer.proofs.lexer.cut.Given as goal

abbrev pub invariant-loop-rest : goal.invariant-loop-rest
invariant-loop-rest l = record {
  so_far : spec.with_front l.tokens.items (spec.reading_from l.unit 0 l.place l.rest) ≡ spec.reading l.unit l.bytes;
  offset : l.place.offset + length l.rest ≡ length l.bytes;
  line : l.place.pos.line ≤ l.place.offset + 2147483648;
}

abbrev pub decreases-loop-rest : goal.decreases-loop-rest
decreases-loop-rest l = length l.rest
