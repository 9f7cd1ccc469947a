use Rattle.std.proofs.Common.{◌∙◌}
use Rattle.front_end.proofs.worlds.program_of.Goals as goal

pub returns-clause-only : goal.returns-clause-only
returns-clause-only c = λ program is. c.in_ok-new.ensures ∙ (rw c.height_limit.ensures at c.in_ok-program.ensures.only) program is
