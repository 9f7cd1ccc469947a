use Rattle.written_laws.proofs.WrittenLaws.{ints}
use Rattle.written_laws.proofs.laws.literals_are_ints.Goals as goal

pub returns : goal.returns
returns c = ints
