use Rattle.c_statements.specs.Code.Seen.{seen_read}
use Rattle.c_statements.proofs.BlockLaws.{answers}
use Rattle.c_statements.proofs.statements.block.Goals as goal

pub returns : goal.returns
returns c = answers (seen_read c.items.new.scope) c.args.unit c.args.deep c.args.scope.now c.args.tokens.now c.items.result c.items.ensures.read
