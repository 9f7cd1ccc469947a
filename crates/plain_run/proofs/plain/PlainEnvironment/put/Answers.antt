use Rattle.std.proofs.lemmas.Result.{on_ok_weaker}
use Rattle.plain_run.proofs.TableWrites.{puts}
use Rattle.plain_run.proofs.plain.PlainEnvironment.put.Goals as goal

pub returns-clause-put : goal.returns-clause-put
returns-clause-put c =
    let m = c.args.self.now in
    on_ok_weaker c.put.result (puts m.program m.values.entries c.put.new.table.entries m.arrays.entries c.args.name c.args.value) c.put.ensures.set
