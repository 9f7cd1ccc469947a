use Rattle.diff_certs.proofs.WalkLaws.{cycle-refutes}
use Rattle.diff_certs.proofs.answer.cycle_refutes.Goals as goal

pub returns : goal.returns
returns c = cycle-refutes
