use Rattle.std.proofs.Common.{◌≡◌, ◌≤◌, ◌-◌, length}
use Rattle.std.specs.List.{All}
use Rattle.diff_certs.specs.Code.Distances.{IsEmpty}
use Rattle.diff_certs.proofs.distances.start.Given as goal

abbrev pub invariant-loop-count : goal.invariant-loop-count
invariant-loop-count l = (l.count ≤ 65) × (length l.nodes.items ≡ l.count) × All IsEmpty l.nodes.items

abbrev pub decreases-loop-count : goal.decreases-loop-count
decreases-loop-count l = 65 - l.count
