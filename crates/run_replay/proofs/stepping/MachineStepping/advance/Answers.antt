use Rattle.std.proofs.Common.{ap}
use Rattle.plain_run.specs.Steps.{step_with}
use Rattle.run_replay.proofs.stepping.MachineStepping.advance.Goals as goal

pub returns-clause-next : goal.returns-clause-next
returns-clause-next c = ap (λ rules. step_with rules.access rules.special) c.step.ensures.rules
