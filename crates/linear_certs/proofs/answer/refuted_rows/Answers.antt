use Rattle.linear_certs.proofs.RefutedLaws.{refuted-leaf}
use Rattle.linear_certs.proofs.answer.refuted_rows.Goals as goal

pub returns : goal.returns
returns c = refuted-leaf
