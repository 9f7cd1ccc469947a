use Rattle.std.proofs.Common.{◌≡◌, sym, IfOk, OnOk, IsErrOf}
use Rattle.plain_run.specs.Moves.{events_of}
use Rattle.plain_run.specs.Steps.{step_with}
use Rattle.plain_run.specs.declared.step.RunError.TheVariants.{Deep}
use Rattle.run_replay.specs.Code.After.{ShowsEnds, RestsWhenOver}
use Rattle.run_replay.specs.Replays.{IsRunClose, RunStaysShallow, RunGetsDeep}
use Rattle.run_replay.proofs.MachineEnds.{plain_ends, plain_rests, by_rules}
use Rattle.run_replay.proofs.plain.replay_plain.Goals as goal

pub replay_run-requires-clause-ends : goal.replay_run-requires-clause-ends
replay_run-requires-clause-ends c =
    by_rules (sym c.in_ok-machine.ensures.rules) (sym c.in_ok-machine.ensures.config) (λ rules config. ShowsEnds (step_with rules.access rules.special)) (plain_ends c.args.program.now.program)

pub replay_run-requires-clause-rests : goal.replay_run-requires-clause-rests
replay_run-requires-clause-rests c =
    by_rules (sym c.in_ok-machine.ensures.rules) (sym c.in_ok-machine.ensures.config) (λ rules config. RestsWhenOver (step_with rules.access rules.special)) (plain_rests c.args.program.now.program)

pub returns-clause-events : goal.returns-clause-events
returns-clause-events c =
    by_rules c.in_ok-machine.ensures.rules c.in_ok-machine.ensures.config
    (λ rules config. IfOk c.replay_run.result (λ replay. replay.events.items ≡ events_of (step_with rules.access rules.special) c.args.steps config c.args.answers.now))
    c.replay_run.ensures.events

pub returns-clause-close : goal.returns-clause-close
returns-clause-close c =
    by_rules c.in_ok-machine.ensures.rules c.in_ok-machine.ensures.config
    (λ rules config. IfOk c.replay_run.result (λ replay. IsRunClose (step_with rules.access rules.special) config c.args.answers.now c.args.steps replay.close))
    c.replay_run.ensures.close

pub returns-clause-shallow : goal.returns-clause-shallow
returns-clause-shallow c =
    by_rules c.in_ok-machine.ensures.rules c.in_ok-machine.ensures.config
    (λ rules config. OnOk c.replay_run.result (RunStaysShallow (step_with rules.access rules.special) config c.args.answers.now c.args.steps))
    c.replay_run.ensures.shallow

pub returns-clause-deep : goal.returns-clause-deep
returns-clause-deep c =
    by_rules c.in_ok-machine.ensures.rules c.in_ok-machine.ensures.config
    (λ rules config. IsErrOf c.replay_run.result Deep → RunGetsDeep (step_with rules.access rules.special) config c.args.answers.now c.args.steps)
    c.replay_run.ensures.deep
