use Rattle.std.proofs.Common.{sym, ap₂, ◌∙◌, w32}
use Rattle.std.proofs.lemmas.Int.{to_z-of_z}
use Rattle.plain_run.specs.Steps.{elements_with}
use Rattle.update_semantics.proofs.CellLaws.{sets_in}
use Rattle.update_semantics.proofs.cells.Cells.set_element.Goals as goal

pub returns-in-Some-clause-stores : goal.returns-in-Some-clause-stores
returns-in-Some-clause-stores c =
    let elements = c.in-Some.elements.now in
    sets_in c.args.self.now.arrays.entries (c.get_mut.follows.lender c.set_element.new.elements).entries c.args.name.now elements c.set_element.new.elements
    (sym c.in-Some.ensures.value) (c.get_mut.follows.holds c.set_element.new.elements).0 c.args.at c.args.element c.set_element.result
    (sym (ap₂ (elements_with elements.items) (to_z-of_z w32 c.args.at c.ranges.at) (to_z-of_z w32 c.args.element c.ranges.element)) ∙ c.set_element.ensures.within) c.set_element.ensures.outside
