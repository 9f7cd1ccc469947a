use Rattle.cert_checker.proofs.CheckLaws.{checked-valid}
use Rattle.cert_checker.proofs.laws.checked_is_valid.Goals as goal

pub returns : goal.returns
returns c = checked-valid
