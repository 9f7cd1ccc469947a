use Rattle.c_parser.proofs.WrittenLaws.{one_of_text}
use Rattle.c_parser.proofs.laws.one_program_of_text.Goals as goal

pub returns : goal.returns
returns c = one_of_text
