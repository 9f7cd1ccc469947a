use Rattle.std.proofs.Common.{◌≡◌, false, reverse, slice_get, Some, None, refl, sym, subst, ◌∙◌, rules}
use Rattle.terms.specs.Symbols.{same_sym}
use Rattle.terms.specs.Trees.{name}
use Rattle.loop_invariants.specs.EntryNames.{bound}
use Rattle.symbolic_state.specs.Code.Bindings.{values_of, latest}
use Rattle.symbolic_state.specs.Code.Values.{pair_of, as_numbers}
use Rattle.symbolic_state.specs.Code.Writing.{change_at, NumberStands}
use Rattle.symbolic_state.proofs.AscentLaws.{ascending}
use Rattle.symbolic_state.proofs.FoundLaws.{not_bound, bound_stays, number_counted, number_stays, number_there, number_stands}
use Rattle.symbolic_state.proofs.state.SymbolicState.number_value.Goals as goal

pub returns-then-symbol-ne0 : goal.returns-then-symbol-ne0
returns-then-symbol-ne0 c = subst (λ l. (change_at l c.args.time).number c.args.symbol.now ≡ name c.args.symbol.now) c.self.view_is
    (number_counted c.self.inside.steps.items (values_of c.self.inside.numbers) (values_of c.self.inside.arrays) c.self.invariant c.args.time c.args.symbol.now c.if-symbol-ne0.true)

pub returns-then-is_bound : goal.returns-then-is_bound
returns-then-is_bound c = subst (λ l. (change_at l c.args.time).number c.args.symbol.now ≡ name c.args.symbol.now) c.self.view_is
    (bound_stays c.self.inside.steps.items (values_of c.self.inside.numbers) (values_of c.self.inside.arrays) c.self.invariant c.args.time c.args.symbol.now (sym c.if-is_bound.ensures))

pub latest-requires : goal.latest-requires
latest-requires c =
    let free : same_sym c.args.symbol.now bound ≡ false = sym c.is_bound.ensures ∙ c.if-is_bound.false in
    ascending as_numbers (reverse c.self.inside.steps.items) c.args.symbol.now.base (values_of c.self.inside.numbers c.args.symbol.now.base) (c.self.invariant.numbers c.args.symbol.now.base (not_bound c.args.symbol.now c.if-symbol-ne0.false free))

pub returns-in_default : goal.returns-in_default
returns-in_default c =
    let free : same_sym c.args.symbol.now bound ≡ false = sym c.is_bound.ensures ∙ c.if-is_bound.false in
    let e : latest c.args.time (values_of c.self.inside.numbers c.args.symbol.now.base) ≡ None = search rules in
    subst (λ l. (change_at l c.args.time).number c.args.symbol.now ≡ name c.args.symbol.now) c.self.view_is
    (number_stays c.self.inside.steps.items (values_of c.self.inside.numbers) (values_of c.self.inside.arrays) c.self.invariant c.args.time c.args.symbol.now c.if-symbol-ne0.false free e)

pub returns-in_default-number_at : goal.returns-in_default-number_at
returns-in_default-number_at c =
    let free : same_sym c.args.symbol.now bound ≡ false = sym c.is_bound.ensures ∙ c.if-is_bound.false in
    let e : latest c.args.time (values_of c.self.inside.numbers c.args.symbol.now.base) ≡ Some c.in-Some.binding = search rules in
    let nothing : pair_of as_numbers (slice_get c.self.inside.steps.items c.in-Some.binding.source) c.in-Some.binding.pair ≡ None = search rules in
    absurd (number_there c.self.inside.steps.items (values_of c.self.inside.numbers) (values_of c.self.inside.arrays) c.self.invariant c.args.time c.args.symbol.now c.if-symbol-ne0.false free c.in-Some.binding e nothing)

pub returns : goal.returns
returns c =
    let free : same_sym c.args.symbol.now bound ≡ false = sym c.is_bound.ensures ∙ c.if-is_bound.false in
    let e : latest c.args.time (values_of c.self.inside.numbers c.args.symbol.now.base) ≡ Some c.in-Some.binding = search rules in
    let there : pair_of as_numbers (slice_get c.self.inside.steps.items c.in-Some.binding.source) c.in-Some.binding.pair ≡ Some c.in-Some-number_at.value.now = search rules in
    subst (λ l. NumberStands l c.args.time c.args.symbol.now (c.nodes.result, c.in-Some.binding.source)) c.self.view_is
    (number_stands c.self.inside.steps.items (values_of c.self.inside.numbers) (values_of c.self.inside.arrays) c.self.invariant c.args.time c.args.symbol.now c.if-symbol-ne0.false free c.in-Some.binding c.in-Some-number_at.value.now e there
    (c.nodes.result, c.in-Some.binding.source) c.nodes.ensures refl)
