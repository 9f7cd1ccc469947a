use Rattle.linear_certs.proofs.FarLaws.{far-largest}
use Rattle.linear_certs.proofs.answer.far_sizes.Goals as goal

pub returns : goal.returns
returns c = far-largest
