use Rattle.cert_checker.proofs.CombinedLaws.{numbered-with}
use Rattle.cert_checker.proofs.NumberedLaws.{row-holds}
use Rattle.cert_checker.proofs.laws.numbered_row_is_true.Goals as goal

pub returns-clause-numbered : goal.returns-clause-numbered
returns-clause-numbered c = numbered-with

pub returns-clause-holds : goal.returns-clause-holds
returns-clause-holds c = row-holds
