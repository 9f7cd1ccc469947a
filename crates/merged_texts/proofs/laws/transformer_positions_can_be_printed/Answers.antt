use Rattle.merged_texts.proofs.WorldParts.{xform_at}
use Rattle.merged_texts.proofs.laws.transformer_positions_can_be_printed.Goals as goal

pub returns : goal.returns
returns c = xform_at
