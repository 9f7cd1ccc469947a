use Rattle.std.proofs.Common.{map, refl, ap, ◌∙◌}
use Rattle.c_lang.specs.declared.program.Func.{Func}
use Rattle.plain_run.specs.Steps.{frame_of}
use Rattle.plain_run.specs.Values.{seen_value}
use Rattle.plain_run.specs.Stacks.{config_with}
use Rattle.plain_run.specs.Code.Frames.{seen_frame}
use Rattle.plain_run.proofs.MachineLaws.{pushed}
use Rattle.plain_run.proofs.run.Run.enter_function.Goals as goal

pub returns-clause-done : goal.returns-clause-done
returns-clause-done g c = λ a.
    let see = g.E.Look.seen in
    let m = c.args.self.now in
    let N = (g.E.Look.rules m.environment).access in
    let vs = map (seen_value see.function) c.args.args.now in (
      pushed see (g.E.Look.state m.environment) (g.E.Look.state m.environment) (config_with see (g.E.Look.state c.push.new.self.environment) c.push.new.self.stack)
          (frame_of N (N.enter (g.E.Look.state m.environment) (see.function c.args.function)) vs c.args.dest.now) (seen_frame see c.in_ok-frame.frame)
          m.stack.top c.reserve.new.self.top m.stack.below c.reserve.new.self.below c.push.ensures.config refl
          (c.in_ok-frame.ensures N ∙ ap (λ (d : g.E.Look.O × Func). frame_of N d vs c.args.dest.now) c.enter-definition.ensures)
          c.reserve.ensures.top c.reserve.ensures.below,
      refl,
    )
