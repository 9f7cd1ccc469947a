use Rattle.written_laws.proofs.KeptLaws.{kept_positions}
use Rattle.written_laws.proofs.laws.typed_positions_can_be_printed.Goals as goal

pub returns : goal.returns
returns c = λ kept source h. kept_positions kept h source
