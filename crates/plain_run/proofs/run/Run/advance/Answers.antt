use Rattle.plain_run.specs.Stacks.{config_with}
use Rattle.plain_run.specs.Code.Frames.{seen_items, seen_frames}
use Rattle.plain_run.specs.Code.SeenActions.{seen_action}
use Rattle.plain_run.proofs.StepLaws.{makes_statement}
use Rattle.plain_run.proofs.run.Run.advance.Goals as goal

pub returns-in-Some-clause-done : goal.returns-in-Some-clause-done
returns-in-Some-clause-done g c =
    let see = g.E.Look.seen in
    let m = c.args.self.now in
    let n = c.perform.new.self in
    makes_statement see (g.E.Look.rules m.environment) (g.E.Look.state m.environment) (seen_frames see m.stack.below) m.stack.top m.stack.over
    (seen_items m.stack.top.rest.items) (seen_items c.first.new.rest.items) c.if-self.false c.first.ensures.items
    c.args.answers.now c.perform.result (config_with see (g.E.Look.state n.environment) n.stack) c.perform.new.answers c.in-Some.statement.now
    (seen_action see.function c.asked-action.result) c.in-Some.ensures.statement c.asked-action.ensures c.perform.ensures.done
