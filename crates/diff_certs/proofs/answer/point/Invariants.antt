use Rattle.std.proofs.Common.{ℕ, ◌≡◌, ◌≤◌, ◌<◌, ◌-◌, length, ◌-ℤ◌}
use Rattle.diff_certs.specs.Code.Distances.{distance_at}
use Rattle.diff_certs.specs.Answer.{coordinate}
use Rattle.diff_certs.proofs.answer.point.Given as goal

abbrev pub invariant-loop-side : goal.invariant-loop-side
invariant-loop-side l = (l.side ≤ 64) × (length l.values.items ≡ l.side) × ((n : ℕ) → n < length l.values.items → coordinate l.values.items n ≡ (distance_at l.nodes n -ℤ distance_at l.nodes 64))

abbrev pub decreases-loop-side : goal.decreases-loop-side
decreases-loop-side l = 64 - l.side
