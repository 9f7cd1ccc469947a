use Rattle.std.proofs.Common.{◌≡◌, ◌≤◌, ◌-◌, ◌*◌, ℕ, length, drop, ◌+ℤ◌}
use Rattle.std.specs.Prelude.{unsigned_abs}
use Rattle.std.specs.List.{All}
use Rattle.linear_rows.specs.Sums.{dot}
use Rattle.linear_certs.specs.Answers.{coordinate}
use Rattle.linear_certs.proofs.limit.dot.Given as goal

abbrev pub invariant-loop-at : goal.invariant-loop-at
invariant-loop-at l = record {
  within : l.at ≤ length l.parts;
  sum : dot (coordinate l.nums) l.parts ≡ l.sum +ℤ dot (coordinate l.nums) (drop l.at l.parts);
  size : (c n : ℕ) → All (λ part. unsigned_abs part.1 ≤ c) l.parts → ((atom : ℕ) → unsigned_abs (coordinate l.nums atom) ≤ n) → unsigned_abs l.sum ≤ l.at * (c * n);
}

abbrev pub decreases-loop-at : goal.decreases-loop-at
decreases-loop-at l = length l.parts - l.at
