use Rattle.written_laws.proofs.KeptLaws.{kept_breaks}
use Rattle.written_laws.proofs.laws.typed_breaks_stand_in_loops.Goals as goal

pub returns : goal.returns
returns c = kept_breaks
