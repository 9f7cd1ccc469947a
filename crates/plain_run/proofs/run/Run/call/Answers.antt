use Rattle.std.proofs.Common.{Ok, map, subst, sym, ap, ◌∙◌}
use Rattle.c_lang.specs.Values.{Code}
use Rattle.plain_run.specs.Steps.{entered}
use Rattle.plain_run.specs.Code.Calls.{seen_arguments}
use Rattle.plain_run.specs.Code.Frames.{behind_statement, seen_frames}
use Rattle.plain_run.specs.Runs.{Makes_or_fails}
use Rattle.plain_run.specs.Stacks.{config_with}
use Rattle.plain_run.specs.Values.{seen_value}
use Rattle.plain_run.proofs.MachineLaws.{call-is}
use Rattle.plain_run.proofs.run.Run.call.Goals as goal

pub returns-in-Code-clause-done : goal.returns-in-Code-clause-done
returns-in-Code-clause-done g c = λ a.
    let see = g.E.Look.seen in
    let m = c.args.self.now in
    let R = g.E.Look.rules m.environment in
    let s = g.E.Look.state m.environment in
    let n = c.enter_function.new.self in
    let read = sym (ap (seen_arguments see.function) c.in-Ok.is) ∙ c.in_ok-values.ensures in
    rw c.in-Code.is
    (subst (λ move. Makes_or_fails move (config_with see s m.stack) a c.enter_function.result (config_with see (g.E.Look.state n.environment) n.stack) a)
    (call-is see R s m.stack.top (seen_frames see m.stack.below) c.args.args.now c.args.dest.now c.args.pos (Code (see.function c.in-Code.function)) (Ok (map (seen_value see.function) c.in-Ok.values.items)) read)
    (subst (λ vs. Makes_or_fails (entered R.access s (behind_statement see m.stack.top) (seen_frames see m.stack.below) (see.function c.in-Code.function) (map (seen_value see.function) vs) c.args.dest.now)
    (config_with see s m.stack) a c.enter_function.result (config_with see (g.E.Look.state n.environment) n.stack) a)
    c.deref.ensures.value (c.enter_function.ensures.done a)))
