use Rattle.symbolic_state.proofs.WritingLaws.{into_number, into_array}
use Rattle.symbolic_state.proofs.laws.values_are_written_next.Goals as goal

pub returns-clause-numbers : goal.returns-clause-numbers
returns-clause-numbers g c d out rest x n frames t e = into_number c out x n rest frames d t e

pub returns-clause-arrays : goal.returns-clause-arrays
returns-clause-arrays g c d out rest x n frames a e = into_array c out x n rest frames d a e
