-- What doing an action does to a run.
use Rattle.std.specs.Prelude.{ℤ, List, Result}
use Rattle.plain_run.specs.Environments.{Rules, Sees}
use Rattle.plain_run.specs.Runs.{Makes_or_fails}
use Rattle.plain_run.specs.Stacks.{config_with}
use Rattle.plain_run.specs.declared.stack.Stack.{Stack}
use Rattle.plain_run.specs.declared.step.Step.{Step}
use Rattle.plain_run.specs.declared.step.RunError.{RunError}
use Rattle.plain_run.specs.Code.Actions.{Action, done}
use Rattle.plain_run.specs.Code.Frames.{behind_statement, seen_frames}

-- the action was done, in the place of the statement that ran next
abbrev pub HasDone : {X Y F G O : Type 0} → Sees X Y F O → Rules F G O → G → Stack X Y → Action F → List ℤ → Result Step RunError → G → Stack X Y → List ℤ → Type 0
HasDone see R g s action a result g' s' b =
    Makes_or_fails (done R g (behind_statement see s.top) (seen_frames see s.below) action) (config_with see g s) a result (config_with see g' s') b
