use Rattle.c_types.specs.Code.SeenScopes.{seen_scope}
use Rattle.c_types.specs.Bodies.{body_of}
use Rattle.c_types.proofs.BlockLaws.{block_left}
use Rattle.c_types.proofs.FunctionLaws.{inner_left}
use Rattle.c_types.proofs.statements.+statement.Goals as goal

pub body-returns-clause-scope : goal.body-returns-clause-scope
body-returns-clause-scope t c =
    block_left (seen_scope c.args.scope.now) (seen_scope c.sequence.new.scope) (body_of c.args.stmts.now) c.len.result c.len-2.result c.truncate.new.self
    c.add_locals-2.new.symbols c.truncate-2.new.self c.len.ensures c.len-2.ensures
    (rw (← c.in_ok-add_locals.ensures) c.in_ok-all.ensures.scope) c.in_ok-add_locals-2.ensures c.truncate.ensures c.truncate-2.ensures

pub inner-returns-clause-scope : goal.inner-returns-clause-scope
inner-returns-clause-scope t c =
    inner_left (seen_scope c.args.scope.now) (seen_scope c.body.new.scope) (body_of c.args.stmts.now) c.take-forced.new.self c.take-forced.result
    c.take-forced.ensures.after c.take-forced.ensures.value c.in_ok-all.ensures.scope
