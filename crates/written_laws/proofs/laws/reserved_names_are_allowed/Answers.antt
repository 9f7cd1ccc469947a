use Rattle.written_laws.proofs.NameLaws.{reserved}
use Rattle.written_laws.proofs.laws.reserved_names_are_allowed.Goals as goal

pub returns : goal.returns
returns c = reserved
