use Rattle.std.proofs.Common.{◌≡◌, Some, sym, subst, ap₂, ◌∙◌, w32}
use Rattle.std.proofs.lemmas.Int.{to_z-of_z}
use Rattle.std.specs.Map.{set_value}
use Rattle.std.specs.Str.{bytes_eq}
use Rattle.c_lang.specs.Names.{Bytes}
use Rattle.plain_run.specs.Code.Names.{found}
use Rattle.plain_run.specs.Steps.{elements_with}
use Rattle.plain_run.proofs.TableWrites.{sets_element}
use Rattle.plain_run.proofs.plain.PlainEnvironment.set_element.Goals as goal

pub returns-in-Some-clause-set : goal.returns-in-Some-clause-set
returns-in-Some-clause-set c =
    let m = c.args.self.now in
    let elements = c.in-Some.elements.now in
    let new = (c.get_mut.follows.lender c.set_element.new.elements).entries in
    let there = subst (λ (x : Bytes). found m.arrays.entries x ≡ Some elements) c.as_bytes.ensures (sym c.in-Some.ensures.value) in
    let written =
    subst (λ (x : Bytes). new ≡ set_value (λ n. bytes_eq x n.now) m.arrays.entries c.set_element.new.elements) c.as_bytes.ensures
    (c.get_mut.follows.holds c.set_element.new.elements).0 in
    sets_element m.arrays.entries new c.args.array.now elements c.set_element.new.elements there written m.program m.values.entries c.args.at c.args.element c.set_element.result
    (sym (ap₂ (elements_with elements.items) (to_z-of_z w32 c.args.at c.ranges.at) (to_z-of_z w32 c.args.element c.ranges.element)) ∙ c.set_element.ensures.within) c.set_element.ensures.outside
