use Rattle.std.proofs.Common.{◌≡◌}
use Rattle.plain_run.specs.Steps.{after_mark}
use Rattle.plain_run.specs.Code.Frames.{seen_items}
use Rattle.plain_run.proofs.frame.leave_loop.Given as goal

abbrev pub invariant-loop-last : goal.invariant-loop-last
invariant-loop-last l = after_mark (seen_items l.rest.items) ≡ after_mark (seen_items l.initial.rest.items)

abbrev pub decreases-loop-last : goal.decreases-loop-last
decreases-loop-last l = goal.left-loop-last l
