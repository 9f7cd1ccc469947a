use Rattle.c_statements.specs.Code.StatementReading.{keyword_stmt}
use Rattle.c_statements.proofs.statements.keyword.Goals as goal

pub returns-in-10-clause-read : goal.returns-in-10-clause-read
unfolding keyword_stmt
returns-in-10-clause-read c = rw c.in-10.is (c.assert_at.ensures.read c.args.scope.now)

pub returns-in-16-clause-read : goal.returns-in-16-clause-read
unfolding keyword_stmt
returns-in-16-clause-read c = rw c.in-16.is (c.output_at.ensures.read c.args.scope.now)
