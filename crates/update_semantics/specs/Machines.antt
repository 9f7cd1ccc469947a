-- What a machine of updating runs stands for.
use Rattle.plain_run.specs.Environments.{Rules}
use Rattle.plain_run.specs.Moves.{Move}
use Rattle.plain_run.specs.Stacks.{config_with, move_with}
use Rattle.version_names.specs.Home.{Linked}
use Rattle.version_names.specs.Provenance.{Provenance}
use Rattle.update_semantics.specs.Code.Environments.{state_in, seen_in}
use Rattle.update_semantics.specs.Code.Environments as names
use Rattle.update_semantics.specs.UpdatingRun.{State, UpdConfig}
use Rattle.update_semantics.specs.declared.machine.UpdMachine.{UpdMachine}

-- the rules by which it goes on; where they are those of a world, its moves are the updating steps of
-- that world
abbrev pub rules_in : UpdMachine → Rules Linked State Provenance
rules_in m = names.rules_in m.run.environment

abbrev pub config_of : UpdMachine → UpdConfig
config_of m = config_with seen_in (state_in m.run.environment) m.run.stack

-- the step that it makes next
abbrev pub move_of : UpdMachine → Move UpdConfig
move_of m = move_with seen_in (rules_in m) (state_in m.run.environment) m.run.stack
