use Rattle.version_names.proofs.StatusLaws.{linked-again}
use Rattle.version_names.proofs.links.link.Goals as goal

pub returns : goal.returns
returns c = linked-again _ _ _ _ _ c.program.ensures.program c.program-2.ensures.program c.link_programs.ensures
