use Rattle.std.proofs.Common.{◌≡◌, ◌++◌, reverse, length}
use Rattle.cert_checker.specs.Code.Made.{seen}
use Rattle.cert_checker.specs.Code.Branches.{seen_branches, with_shared}
use Rattle.cert_checker.proofs.branch.put_children.Given as goal

abbrev pub invariant-loop-added : goal.invariant-loop-added
invariant-loop-added l = with_shared l.fn.shared (seen l.made) ++ seen_branches (reverse l.waiting.items) ≡ with_shared l.fn.shared (seen l.fn.made) ++ seen_branches (reverse l.fn.waiting.items)

abbrev pub decreases-loop-added : goal.decreases-loop-added
decreases-loop-added l = length l.made.items
