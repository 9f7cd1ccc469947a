use Rattle.std.proofs.Common.{◌≡◌, ◌∙◌, rules}
use Rattle.plain_run.proofs.ArithmeticLaws.{applied-seen}
use Rattle.plain_run.specs.Code.Arithmetic.{applied}
use Rattle.plain_run.specs.Code.Scopes.{callee_in}
use Rattle.plain_run.specs.Values.{number_of}
use Rattle.plain_run.proofs.eval.Scope.applied.Goals as goal

pub returns : goal.returns
returns g c =
    let e = c.args.self.now.environment.now in
    let code = (g.E.Look.rules e).access.code (g.E.Look.seen.origin c.args.self.now.frame.now.origin) (g.E.Look.state e) in
    let is : c.applied.result ≡ applied c.args.op (number_of c.args.left) (number_of c.args.right) c.same_value-same.result = search rules in
    c.answer.ensures code
    ∙ applied-seen (callee_in g.E.Look.seen (g.E.Look.rules e) (g.E.Look.state e) c.args.self.now.frame.now) (g.E.Look.rules e).access.same c.args.op c.args.left c.args.right
    c.same_value-same.result c.applied.result c.same_value-same.ensures is
