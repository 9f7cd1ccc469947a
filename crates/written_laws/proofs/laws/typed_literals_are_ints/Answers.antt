use Rattle.written_laws.proofs.KeptLaws.{kept_ints}
use Rattle.written_laws.proofs.laws.typed_literals_are_ints.Goals as goal

pub returns : goal.returns
returns c = kept_ints
