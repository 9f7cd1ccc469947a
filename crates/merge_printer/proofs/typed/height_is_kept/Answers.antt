use Rattle.merge_printer.proofs.HeightLaw.{height_kept}
use Rattle.merge_printer.proofs.typed.height_is_kept.Goals as goal

pub returns : goal.returns
returns c = height_kept
