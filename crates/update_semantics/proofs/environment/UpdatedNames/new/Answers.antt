use Rattle.std.proofs.Common.{ap, ◌∙◌}
use Rattle.update_semantics.specs.UpdatingRun.{first_state}
use Rattle.update_semantics.specs.Worlds.{world_of}
use Rattle.update_semantics.proofs.environment.UpdatedNames.new.Goals as goal

pub returns-clause-state : goal.returns-clause-state
returns-clause-state c = c.in_ok-state.ensures ∙ ap (λ w. first_state (world_of w)) c.in_ok-meanings.ensures.tables
