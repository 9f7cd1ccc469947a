use Rattle.c_parser.proofs.WrittenLaws.{is_written}
use Rattle.c_parser.proofs.laws.parsed_is_written.Goals as goal

pub returns : goal.returns
returns c = is_written
