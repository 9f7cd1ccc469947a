use Rattle.std.proofs.Common.{rules, ◌≡◌, ℕ, ℤ, List, subst, of_z, to_z, FitsSigned, Option, Some, None}
use Rattle.std.specs.Int.{w128}
use Rattle.std.proofs.lemmas.Int.{to_z-of_z}
use Rattle.linear_certs.specs.declared.entry.Entry.{Entry}
use Rattle.linear_certs.specs.declared.limit.Limit.{Limit}
use Rattle.linear_certs.specs.declared.point.Numbers.{Numbers}
use Rattle.linear_certs.specs.Answers.{coordinate}
use Rattle.linear_certs.specs.Code.Limits.{IsChosen, IsMoved, IsNextPoint}
use Rattle.linear_certs.proofs.SizeLaws.{if-some}
use Rattle.linear_certs.proofs.LimitLaws.{next-same, next-moved, past-moved}
use Rattle.linear_certs.proofs.point.give_value.Goals as goal

-- What was chosen for slices of the stage and of the numbers.
whole : (atom : ℕ) (nums nums' : List ℤ) (over over' : ℤ) (entries entries' : List Entry) (o : Option Limit) → nums ≡ nums' → over ≡ over' → entries ≡ entries' → IsChosen atom (coordinate nums) over entries o → IsChosen atom (coordinate nums') over' entries' o
whole atom nums nums' over over' entries entries' o e f g h = subst (λ l. IsChosen atom (coordinate nums') over' l o) g (subst (λ z. IsChosen atom (coordinate nums') z entries o) f (subst (λ l. IsChosen atom (coordinate l) over entries o) e h))

pub returns-in-Some-None-clause-value : goal.returns-in-Some-None-clause-value
returns-in-Some-None-clause-value c =
    let over_fits : FitsSigned w128 c.args.numbers.den = search rules in
    let none = rw c.in-Some-None.field-0-is at c.in-Some-None.ensures.chosen in
    next-same c.args.stage.now.atom c.args.stage.now.entries (coordinate c.args.numbers.nums.items) c.args.numbers.den
    (whole c.args.stage.now.atom c.deref.result.now c.args.numbers.nums.items (to_z w128 (of_z w128 c.args.numbers.den)) c.args.numbers.den c.as_slice.result.now c.args.stage.now.entries None c.deref.ensures.value (to_z-of_z w128 c.args.numbers.den over_fits) c.as_slice.ensures none)
    c.requires.still_zero c.requires.lowest

pub returns-in-Some-Some-clause-value : goal.returns-in-Some-Some-clause-value
returns-in-Some-Some-clause-value c =
    let point = coordinate c.args.numbers.nums.items in
    let over_fits : FitsSigned w128 c.args.numbers.den = search rules in
    let some = rw c.in-Some-Some.field-0-is at c.in-Some-Some.ensures.chosen in
    let chosen = whole c.args.stage.now.atom c.deref.result.now c.args.numbers.nums.items (to_z w128 (of_z w128 c.args.numbers.den)) c.args.numbers.den c.as_slice.result.now c.args.stage.now.entries (Some c.in-Some-Some.limit) c.deref.ensures.value (to_z-of_z w128 c.args.numbers.den over_fits) c.as_slice.ensures some in
    if-some (λ (new : Numbers). IsMoved c.args.stage.now.atom c.reduced.result point c.args.numbers.den (coordinate new.nums.items) new.den)
    (λ (new : Numbers). IsNextPoint c.args.stage.now.atom c.args.stage.now.entries point c.args.numbers.den (coordinate new.nums.items) new.den) c.moved.result
    (λ new moved. next-moved c.args.stage.now.atom c.args.stage.now.entries c.in-Some-Some.limit c.reduced.result point c.args.numbers.den (coordinate new.nums.items) new.den c.requires.from chosen c.reduced.ensures c.requires.still_zero c.requires.lowest moved)
    c.moved.ensures.value

pub returns-in-Some-Some-clause-past : goal.returns-in-Some-Some-clause-past
returns-in-Some-Some-clause-past c = λ none.
    let point = coordinate c.args.numbers.nums.items in
    let over_fits : FitsSigned w128 c.args.numbers.den = search rules in
    let some = rw c.in-Some-Some.field-0-is at c.in-Some-Some.ensures.chosen in
    let chosen = whole c.args.stage.now.atom c.deref.result.now c.args.numbers.nums.items (to_z w128 (of_z w128 c.args.numbers.den)) c.args.numbers.den c.as_slice.result.now c.args.stage.now.entries (Some c.in-Some-Some.limit) c.deref.ensures.value (to_z-of_z w128 c.args.numbers.den over_fits) c.as_slice.ensures some in
    past-moved c.args.stage.now.atom c.args.stage.now.entries c.in-Some-Some.limit c.reduced.result point c.args.numbers.den chosen c.reduced.ensures (c.moved.ensures.past none) c.requires.up
