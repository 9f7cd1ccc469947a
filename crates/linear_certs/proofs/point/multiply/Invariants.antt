use Rattle.std.proofs.Common.{◌≡◌, ◌≤◌, ◌<◌, ◌-◌, ℕ, length, ◌*ℤ◌}
use Rattle.linear_certs.specs.Answers.{coordinate}
use Rattle.linear_certs.proofs.point.multiply.Given as goal

abbrev pub invariant-loop-at : goal.invariant-loop-at
invariant-loop-at l = record {
  within : l.at ≤ length l.nums;
  count : length l.nums ≡ length l.fn.nums;
  made : (atom : ℕ) → atom < l.at → coordinate l.nums atom ≡ coordinate l.fn.nums atom *ℤ l.by;
  left : (atom : ℕ) → l.at ≤ atom → coordinate l.nums atom ≡ coordinate l.fn.nums atom;
}

abbrev pub decreases-loop-at : goal.decreases-loop-at
decreases-loop-at l = length l.nums - l.at
