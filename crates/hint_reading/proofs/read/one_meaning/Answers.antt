use Rattle.hint_reading.proofs.ReadingLaws.{same_hints}
use Rattle.hint_reading.proofs.read.one_meaning.Goals as goal

pub returns : goal.returns
returns c = λ p text some other x y. same_hints p text some other x y
