use Rattle.written_laws.proofs.WrittenPositions.{written_positions}
use Rattle.written_laws.proofs.laws.positions_can_be_printed.Goals as goal

pub returns : goal.returns
returns c = written_positions
