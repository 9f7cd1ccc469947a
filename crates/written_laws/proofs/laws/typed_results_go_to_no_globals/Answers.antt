use Rattle.written_laws.proofs.KeptLaws.{kept_no_globals}
use Rattle.written_laws.proofs.laws.typed_results_go_to_no_globals.Goals as goal

pub returns : goal.returns
returns c = kept_no_globals
