-- What the names of an updating run stand for and hold.
use Rattle.plain_run.specs.Environments.{Rules, Sees}
use Rattle.version_names.specs.Home.{Linked}
use Rattle.version_names.specs.Provenance.{Provenance}
use Rattle.update_semantics.specs.Code.Cells.{state_of}
use Rattle.update_semantics.specs.Linked.{function_at, provenance_of}
use Rattle.update_semantics.specs.Rules.{rules_of}
use Rattle.update_semantics.specs.UpdatingRun.{State}
use Rattle.update_semantics.specs.Worlds.{World, world_of}
use Rattle.update_semantics.specs.declared.environment.UpdatedNames.{UpdatedNames}
use Rattle.update_semantics.specs.declared.linked.Function.{Function}
use Rattle.update_semantics.specs.declared.linked.Provenance as code

abbrev pub world_in : UpdatedNames → World
world_in names = names.meanings

abbrev pub state_in : UpdatedNames → State
state_in names = state_of names.state

abbrev pub rules_in : UpdatedNames → Rules Linked State Provenance
rules_in names = rules_of (world_of (world_in names))

abbrev pub seen_in : Sees Function code.Provenance Linked Provenance
seen_in = record { function = function_at; origin = provenance_of }
