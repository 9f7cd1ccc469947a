use Rattle.update_semantics.proofs.CellLaws.{values-insert}
use Rattle.update_semantics.proofs.cells.Cells.put.Goals as goal

pub returns-clause-put : goal.returns-clause-put
returns-clause-put c = values-insert c.args.self.now.values.entries c.insert.new.self.entries _ c.args.value c.in_ok-insert.ensures.entries
