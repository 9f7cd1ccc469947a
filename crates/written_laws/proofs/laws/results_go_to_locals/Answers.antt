use Rattle.written_laws.proofs.WrittenLaws.{results}
use Rattle.written_laws.proofs.laws.results_go_to_locals.Goals as goal

pub returns : goal.returns
returns c = results
