use Rattle.written_laws.proofs.WrittenLaws.{breaks}
use Rattle.written_laws.proofs.laws.breaks_stand_in_loops.Goals as goal

pub returns : goal.returns
returns c = breaks
