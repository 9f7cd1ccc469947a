use Rattle.c_types.proofs.PlainLaws.{plain_resolved_program}
use Rattle.c_types.proofs.laws.resolution_only_adds.Goals as goal

pub returns : goal.returns
returns c = plain_resolved_program
