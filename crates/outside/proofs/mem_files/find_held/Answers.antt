use Rattle.std.proofs.Common.{rules}
use Rattle.std.specs.Prelude.{Some, None}
use Rattle.outside.proofs.Found.{held-found}
use Rattle.outside.proofs.mem_files.find_held.Goals as goal

pub returns-in-None : goal.returns-in-None
returns-in-None c = held-found c.args.name.now c.args.files.now None (search rules)

pub returns-in-Some : goal.returns-in-Some
returns-in-Some c = held-found c.args.name.now c.args.files.now (Some c.in-Some.pair.now) (search rules)
