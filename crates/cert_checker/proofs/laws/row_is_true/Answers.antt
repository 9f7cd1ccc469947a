use Rattle.cert_checker.proofs.LineLaws.{row_of-says}
use Rattle.cert_checker.proofs.laws.row_is_true.Goals as goal

pub returns : goal.returns
returns c = row_of-says
