use Rattle.std.proofs.Common.{ap, ◌∙◌}
use Rattle.name_tables.proofs.TableLaws.{value_of, found_insert}
use Rattle.name_tables.proofs.table.NameTable.put.Goals as goal

pub returns-clause-set : goal.returns-clause-set
returns-clause-set g c = λ x.
    ap (λ entries. value_of entries x) c.in_ok-insert.ensures.entries ∙ found_insert c.args.self.now.index.entries c.args.name c.args.value x
