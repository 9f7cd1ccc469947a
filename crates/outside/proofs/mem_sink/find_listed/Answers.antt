use Rattle.std.proofs.Common.{rules}
use Rattle.std.specs.Prelude.{Some, None}
use Rattle.outside.proofs.Found.{listed-found}
use Rattle.outside.proofs.mem_sink.find_listed.Goals as goal

pub returns-in-None : goal.returns-in-None
returns-in-None c = listed-found c.args.call c.args.failing.now None (search rules)

pub returns-in-Some : goal.returns-in-Some
returns-in-Some c = listed-found c.args.call c.args.failing.now (Some c.in-Some.pair.now) (search rules)
