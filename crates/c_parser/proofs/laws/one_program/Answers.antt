use Rattle.c_parser.proofs.UnitLaws.{one}
use Rattle.c_parser.proofs.laws.one_program.Goals as goal

pub returns : goal.returns
returns c = one
