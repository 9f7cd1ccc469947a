use Rattle.std.proofs.Common.{◌≡◌, reverse, slice_get, Some, None, refl, subst, rules}
use Rattle.terms.specs.Trees.{array}
use Rattle.symbolic_state.specs.Code.Bindings.{values_of, latest}
use Rattle.symbolic_state.specs.Code.Values.{pair_of, as_arrays}
use Rattle.symbolic_state.specs.Code.Writing.{change_at, ArrayStands}
use Rattle.symbolic_state.proofs.AscentLaws.{ascending}
use Rattle.symbolic_state.proofs.FoundLaws.{array_counted, array_stays, array_there, array_stands}
use Rattle.symbolic_state.proofs.state.SymbolicState.array_value.Goals as goal

pub returns-then-symbol-ne0 : goal.returns-then-symbol-ne0
returns-then-symbol-ne0 c = subst (λ l. (change_at l c.args.time).array c.args.symbol.now ≡ array c.args.symbol.now) c.self.view_is
    (array_counted c.self.inside.steps.items (values_of c.self.inside.numbers) (values_of c.self.inside.arrays) c.self.invariant c.args.time c.args.symbol.now c.if-symbol-ne0.true)

pub latest-requires : goal.latest-requires
latest-requires c =
    ascending as_arrays (reverse c.self.inside.steps.items) c.args.symbol.now.base (values_of c.self.inside.arrays c.args.symbol.now.base) (c.self.invariant.arrays c.args.symbol.now.base)

pub returns-in_default : goal.returns-in_default
returns-in_default c =
    let e : latest c.args.time (values_of c.self.inside.arrays c.args.symbol.now.base) ≡ None = search rules in
    subst (λ l. (change_at l c.args.time).array c.args.symbol.now ≡ array c.args.symbol.now) c.self.view_is
    (array_stays c.self.inside.steps.items (values_of c.self.inside.numbers) (values_of c.self.inside.arrays) c.self.invariant c.args.time c.args.symbol.now c.if-symbol-ne0.false e)

pub returns-in_default-array_at : goal.returns-in_default-array_at
returns-in_default-array_at c =
    let e : latest c.args.time (values_of c.self.inside.arrays c.args.symbol.now.base) ≡ Some c.in-Some.binding = search rules in
    let nothing : pair_of as_arrays (slice_get c.self.inside.steps.items c.in-Some.binding.source) c.in-Some.binding.pair ≡ None = search rules in
    absurd (array_there c.self.inside.steps.items (values_of c.self.inside.numbers) (values_of c.self.inside.arrays) c.self.invariant c.args.time c.args.symbol.now c.if-symbol-ne0.false c.in-Some.binding e nothing)

pub returns : goal.returns
returns c =
    let e : latest c.args.time (values_of c.self.inside.arrays c.args.symbol.now.base) ≡ Some c.in-Some.binding = search rules in
    let there : pair_of as_arrays (slice_get c.self.inside.steps.items c.in-Some.binding.source) c.in-Some.binding.pair ≡ Some c.in-Some-array_at.value.now = search rules in
    subst (λ l. ArrayStands l c.args.time c.args.symbol.now (c.nodes.result, c.in-Some.binding.source)) c.self.view_is
    (array_stands c.self.inside.steps.items (values_of c.self.inside.numbers) (values_of c.self.inside.arrays) c.self.invariant c.args.time c.args.symbol.now c.if-symbol-ne0.false c.in-Some.binding c.in-Some-array_at.value.now e there
    (c.nodes.result, c.in-Some.binding.source) c.nodes.ensures refl)
