use Rattle.std.proofs.Common.{subst, w32, to_z, of_z}
use Rattle.std.proofs.lemmas.Int.{to_z-of_z}
use Rattle.update_semantics.specs.Code.Cells.{SetsCell, state_of}
use Rattle.update_semantics.specs.Code.Environments.{world_in, state_in}
use Rattle.update_semantics.specs.Linked.{linked_at, provenance_of}
use Rattle.update_semantics.specs.Worlds.{world_of}
use Rattle.update_semantics.proofs.ElementLaws.{sets_element}
use Rattle.update_semantics.proofs.environment.UpdatedNamesEnvironment.set_element.Goals as goal

pub returns-clause-set : goal.returns-clause-set
returns-clause-set c =
    let old = state_in c.args.self.now in
    let new = state_of c.set_element.new.self in
    sets_element (world_of (world_in c.args.self.now)) (provenance_of c.args.origin) old c.args.array.now c.args.at c.args.element c.set_element.result new
    (subst (λ k. SetsCell old k c.args.at c.args.element c.set_element.result new) c.cell-cell.ensures
    (subst (λ z. SetsCell old (linked_at c.cell-cell.result) c.args.at z c.set_element.result new) (to_z-of_z w32 c.args.element c.ranges.element)
    (subst (λ z. SetsCell old (linked_at c.cell-cell.result) z (to_z w32 (of_z w32 c.args.element)) c.set_element.result new)
    (to_z-of_z w32 c.args.at c.ranges.at) c.set_element.ensures)))
