use Rattle.std.proofs.Common.{◌≡◌, ℕ, ◌-◌, ◌<◌, ◌≤◌}
use Rattle.c_lexer.proofs.Keywords.{keyword_at}
use Rattle.c_lexer.proofs.words.keyword_number.Given as goal

abbrev pub invariant-loop-low : goal.invariant-loop-low
invariant-loop-low l = record {
  within : l.high ≤ 51;
  between : (k : ℕ) → k < 51 → l.word ≡ keyword_at k → (l.low ≤ k) × (k < l.high);
}

abbrev pub decreases-loop-low : goal.decreases-loop-low
decreases-loop-low l = l.high - l.low
