use Rattle.written_laws.proofs.WrittenLaws.{words}
use Rattle.written_laws.proofs.laws.names_are_words.Goals as goal

pub returns : goal.returns
returns c = words
