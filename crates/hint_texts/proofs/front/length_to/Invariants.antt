use Rattle.std.proofs.Common.{◌≡◌, ◌+◌, ◌-◌, ◌≤◌, length, drop}
use Rattle.hint_texts.specs.Code.Reading.{length_to}
use Rattle.hint_texts.proofs.front.length_to.Given as goal

abbrev pub invariant-loop-end : goal.invariant-loop-end
invariant-loop-end l = record {
  value : l.end + length_to l.closing (drop l.end l.tokens) ≡ length_to l.closing l.tokens;
  within : l.end ≤ length l.tokens;
}

abbrev pub decreases-loop-end : goal.decreases-loop-end
decreases-loop-end l = length l.tokens - l.end
