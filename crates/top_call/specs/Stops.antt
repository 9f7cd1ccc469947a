-- Why a run gives no reply.
use Rattle.plain_run.specs.declared.step.RunError.{RunError}
use Rattle.plain_run.specs.declared.step.RunError.TheVariants as error
use Rattle.top_call.specs.declared.stop.Stop.{Stop}
use Rattle.top_call.specs.declared.stop.Stop.TheVariants.{NoMemory, Deep}

abbrev pub stop_of : RunError → Stop
stop_of error.NoMemory = NoMemory
stop_of error.Deep = Deep
