use Rattle.std.proofs.Common.{◌≡◌, ◌<◌, ℕ, length, get_or}
use Rattle.control_flow.specs.Kept.{capped, conditions_for}
use Rattle.control_flow.proofs.counts.node_counts.Given as goal

abbrev pub invariant-loop-node : goal.invariant-loop-node
invariant-loop-node l = record {
  long : length l.counts.items ≡ l.node-index;
  right : (k : ℕ) → k < l.node-index → get_or l.counts.items k 0 ≡ capped (length (conditions_for l.context l.func l.nodes k));
}
