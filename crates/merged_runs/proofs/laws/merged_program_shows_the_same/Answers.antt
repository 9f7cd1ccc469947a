use Rattle.merged_runs.proofs.WorldTheorem.{world-shows}
use Rattle.merged_runs.proofs.laws.merged_program_shows_the_same.Goals as goal

pub returns : goal.returns
returns c = world-shows
