use Rattle.std.proofs.Common.{ℕ, ◌<◌, ◌*◌}
use Rattle.std.specs.Int.{◌∣◌, IsGcd}
use Rattle.linear_certs.proofs.divisor.divisor.Given as goal

abbrev pub invariant-loop-b : goal.invariant-loop-b
invariant-loop-b l = record {
  up : 0 < l.a;
  same : (g : ℕ) → IsGcd l.a l.b g → IsGcd l.fn.left l.fn.right g;
  scales : (m s : ℕ) → m ∣ (l.fn.left * s) → m ∣ (l.fn.right * s) → (m ∣ (l.a * s)) × (m ∣ (l.b * s));
}

abbrev pub decreases-loop-b : goal.decreases-loop-b
decreases-loop-b l = l.b
