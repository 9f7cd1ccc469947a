use Rattle.c_parser.proofs.OpenBrackets.{few_open}
use Rattle.c_parser.proofs.laws.open_brackets_are_few.Goals as goal

pub returns : goal.returns
returns c = few_open
