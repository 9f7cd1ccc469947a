use Rattle.std.proofs.Common.{◌∙◌, sym}
use Rattle.version_names.proofs.TableLaws.{added-new}
use Rattle.version_names.proofs.table.Table.add.Goals as goal

pub returns-in-Ok : goal.returns-in-Ok
returns-in-Ok g c =
    added-new c.self.inside.map c.args.self.now c.insert.new.self.entries c.args.name c.args.value c.self.view_is c.in-Ok.ensures.entries
    (sym c.contains_key.ensures ∙ c.if-contains_key.false)
