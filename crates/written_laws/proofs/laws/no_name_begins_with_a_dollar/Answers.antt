use Rattle.written_laws.proofs.NameLaws.{no_dollar}
use Rattle.written_laws.proofs.laws.no_name_begins_with_a_dollar.Goals as goal

pub returns : goal.returns
returns c = no_dollar
