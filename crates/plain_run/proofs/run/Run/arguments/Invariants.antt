use Rattle.std.proofs.Common.{◌≡◌, drop, map}
use Rattle.plain_run.specs.Code.Calls.{after_values, values_in}
use Rattle.plain_run.specs.Code.Scopes.{look_in}
use Rattle.plain_run.specs.Values.{seen_value}
use Rattle.plain_run.proofs.run.Run.arguments.Given as goal

abbrev pub invariant-loop-expr : goal.invariant-loop-expr
invariant-loop-expr g l =
    let R = g.E.Look.rules l.self.environment in
    let look = look_in g.E.Look.seen R (g.E.Look.state l.self.environment) l.self.stack.top in
    values_in R.access.same look l.exprs
    ≡ after_values (map (seen_value g.E.Look.seen.function) l.values.items) (values_in R.access.same look (drop l.expr-index l.exprs))
