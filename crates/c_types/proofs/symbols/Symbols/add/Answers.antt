use Rattle.std.proofs.Common.{◌∙◌, sym}
use Rattle.c_types.specs.Code.SeenMeans.{seen_means}
use Rattle.c_types.proofs.SymbolLaws.{added-new, added-present}
use Rattle.c_types.proofs.symbols.Symbols.add.Goals as goal

pub returns-in-Ok-clause-added : goal.returns-in-Ok-clause-added
returns-in-Ok-clause-added c =
    added-new c.self.inside.table c.args.self.now c.insert.new.self.entries c.args.name c.args.means c.self.view_is c.in-Ok.ensures.entries
    (sym c.contains_key.ensures ∙ c.if-contains_key.false)

pub returns-then-contains_key-clause-added : goal.returns-then-contains_key-clause-added
returns-then-contains_key-clause-added c =
    added-present c.self.inside.table.entries c.args.self.now c.args.name (seen_means c.args.means) (sym c.self.view_is)
    (sym c.contains_key.ensures ∙ c.if-contains_key.true)
