use Rattle.c_statements.proofs.BlockLaws.{one}
use Rattle.c_statements.proofs.statements.one_block.Goals as goal

pub returns : goal.returns
returns c = one
