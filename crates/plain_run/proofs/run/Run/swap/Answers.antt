use Rattle.std.proofs.Common.{[], ap, ◌∙◌}
use Rattle.c_lang.specs.declared.program.Func.{Func}
use Rattle.c_lang.specs.declared.stmt.Dest.TheVariants.{Nowhere}
use Rattle.plain_run.specs.Steps.{frame_of}
use Rattle.plain_run.specs.Stacks.{config_with}
use Rattle.plain_run.specs.Code.Frames.{seen_frame}
use Rattle.plain_run.proofs.MachineLaws.{pushed}
use Rattle.plain_run.proofs.run.Run.swap.Goals as goal

pub returns-clause-done : goal.returns-clause-done
returns-clause-done g c =
    let see = g.E.Look.seen in
    let m = c.args.self.now in
    let R = g.E.Look.rules m.environment in
    pushed see (R.update (g.E.Look.state m.environment)) (g.E.Look.state c.update.new.self) (config_with see (g.E.Look.state c.push.new.self.environment) c.push.new.self.stack)
    (frame_of R.access R.transformer [] Nowhere) (seen_frame see c.in_ok-frame.frame)
    m.stack.top c.reserve.new.self.top m.stack.below c.reserve.new.self.below c.push.ensures.config c.in_ok-update.ensures.update
    (c.in_ok-frame.ensures R.access ∙ ap (λ (d : g.E.Look.O × Func). frame_of R.access d [] Nowhere) c.transformer-definition.ensures)
    c.reserve.ensures.top c.reserve.ensures.below
