use Rattle.merged_texts.proofs.WrittenHeights.{written_low}
use Rattle.merged_texts.proofs.laws.printed_is_no_higher.Goals as goal

pub returns : goal.returns
returns c = written_low
