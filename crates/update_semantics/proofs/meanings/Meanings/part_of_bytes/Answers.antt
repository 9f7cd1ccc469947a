use Rattle.std.proofs.Common.{sym, ap, ◌∙◌}
use Rattle.version_names.specs.Parts.{version_of}
use Rattle.update_semantics.specs.Linked.{home_in}
use Rattle.update_semantics.specs.Worlds.{world_of}
use Rattle.update_semantics.proofs.PartLaws.{declared_is}
use Rattle.update_semantics.proofs.meanings.Meanings.part_of_bytes.Goals as goal

pub returns-in-Some : goal.returns-in-Some
returns-in-Some c =
    c.part.ensures ∙ ap (home_in (world_of c.args.self.now) c.args.sort (version_of c.args.version))
    (declared_is c.args.self.now c.args.version c.args.sort c.args.name.now _ (sym c.in-Some.ensures))
