use Rattle.std.proofs.Common.{sym, ◌∙◌}
use Rattle.plain_run.proofs.FrameLaws.{after_mark-left}
use Rattle.plain_run.proofs.frame.leave_loop.Goals as goal

pub loop-last-preserved : goal.loop-last-preserved
loop-last-preserved c =
    sym (after_mark-left c.loop-last.rest.items c.pop.new.self.items c.in-Some.last c.in-Body.field-0 c.in-Some.ensures.items c.in-Body.is)
    ∙ c.loop-last.invariant
