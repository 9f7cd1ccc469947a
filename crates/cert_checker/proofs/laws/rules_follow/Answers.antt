use Rattle.cert_checker.proofs.CheckLaws.{followed-checks}
use Rattle.cert_checker.proofs.laws.rules_follow.Goals as goal

pub returns : goal.returns
returns c = followed-checks
