use Rattle.update_semantics.specs.Worlds.{World, IsWorld}
use Rattle.merged_types.proofs.WorldTyped.{world_typed}
use Rattle.merged_types.proofs.laws.merged_is_typed.Goals as goal

pub returns : goal.returns
returns c = λ (w : World) (h : IsWorld w). world_typed w h
