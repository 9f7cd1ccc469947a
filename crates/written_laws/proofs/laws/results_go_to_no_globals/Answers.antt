use Rattle.written_laws.proofs.WrittenLaws.{no_globals}
use Rattle.written_laws.proofs.laws.results_go_to_no_globals.Goals as goal

pub returns : goal.returns
returns c = no_globals
