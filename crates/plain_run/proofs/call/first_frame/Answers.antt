use Rattle.std.proofs.Common.{◌∙◌}
use Rattle.plain_run.proofs.call.first_frame.Goals as goal

pub returns : goal.returns
returns g c = rw (c.deref.ensures.value ∙ c.new-none.ensures.items) at c.frame_of.ensures
