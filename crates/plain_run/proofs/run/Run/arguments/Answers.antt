use Rattle.plain_run.specs.Code.Scopes.{look_in}
use Rattle.plain_run.proofs.ArgumentLaws.{more_values, value_fails, all_values}
use Rattle.plain_run.proofs.run.Run.arguments.Goals as goal

pub loop-expr-preserved : goal.loop-expr-preserved
loop-expr-preserved g c =
    let m = c.args.self.now in
    let R = g.E.Look.rules m.environment in
    more_values g.E.Look.seen.function R.access.same (look_in g.E.Look.seen R (g.E.Look.state m.environment) m.stack.top) c.args.exprs.now
    c.loop-expr.values.items c.push.new.self.items c.loop-expr.expr-index c.expr-item.result c.in-Ok.value c.loop-expr-test.true c.expr-item.is c.in-Ok.ensures c.in_ok-push-in-Ok.ensures.items c.loop-expr.invariant

pub returns-in-Err : goal.returns-in-Err
returns-in-Err g c =
    let m = c.args.self.now in
    let R = g.E.Look.rules m.environment in
    value_fails g.E.Look.seen.function R.access.same (look_in g.E.Look.seen R (g.E.Look.state m.environment) m.stack.top) c.args.exprs.now
    c.loop-expr.values.items c.loop-expr.expr-index c.expr-item.result c.in-Err.trap c.loop-expr-test.true c.expr-item.is c.in-Err.ensures c.loop-expr.invariant

pub returns : goal.returns
returns g c =
    let m = c.args.self.now in
    let R = g.E.Look.rules m.environment in
    all_values g.E.Look.seen.function R.access.same (look_in g.E.Look.seen R (g.E.Look.state m.environment) m.stack.top) c.args.exprs.now
    c.loop-expr.values.items c.loop-expr.expr-index c.loop-expr-test.false c.loop-expr.invariant
