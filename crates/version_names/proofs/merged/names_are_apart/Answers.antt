use Rattle.version_names.proofs.MergedLaws.{apart}
use Rattle.version_names.proofs.merged.names_are_apart.Goals as goal

pub returns : goal.returns
returns c = apart
