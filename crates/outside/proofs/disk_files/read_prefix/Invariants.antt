use Rattle.std.proofs.Common.{length, ◌-◌, ◌≤◌}
use Rattle.outside.proofs.disk_files.read_prefix.Given as goal

abbrev pub invariant-loop-buffer : goal.invariant-loop-buffer
invariant-loop-buffer g l = length l.bytes.items ≤ l.most

abbrev pub decreases-loop-buffer : goal.decreases-loop-buffer
decreases-loop-buffer g l = l.most - length l.bytes.items
