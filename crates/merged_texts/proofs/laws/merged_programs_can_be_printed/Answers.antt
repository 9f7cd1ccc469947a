use Rattle.merged_texts.proofs.Fits.{world_prints}
use Rattle.merged_texts.proofs.laws.merged_programs_can_be_printed.Goals as goal

pub returns : goal.returns
returns c = world_prints
