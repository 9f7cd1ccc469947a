use Rattle.std.proofs.Common.{◌≡◌, inr, Some, length, reverse, sym, ◌∙◌, subst, arith, rules}
use Rattle.std.proofs.lemmas.List.{length-reverse}
use Rattle.symbolic_state.specs.Code.Bindings.{values_of, latest}
use Rattle.symbolic_state.specs.Code.Values.{as_numbers, IsBindingOf}
use Rattle.symbolic_state.proofs.AscentLaws.{ascending}
use Rattle.symbolic_state.proofs.FoundLaws.{not_bound, number_shared}
use Rattle.symbolic_state.proofs.state.SymbolicState.next_binding.Goals as goal

pub latest-requires : goal.latest-requires
latest-requires c =
    ascending as_numbers (reverse c.self.inside.steps.items) c.in-Some.symbol.now.base (values_of c.self.inside.numbers c.in-Some.symbol.now.base)
    (c.self.invariant.numbers c.in-Some.symbol.now.base (not_bound c.in-Some.symbol.now c.in-Some.ensures.1.0 c.in-Some.ensures.1.1))

pub returns-in-Some-latest : goal.returns-in-Some-latest
returns-in-Some-latest c =
    let found : latest c.len-step.result (values_of c.self.inside.numbers c.in-Some.symbol.now.base) ≡ Some c.in-Some-latest.found = search rules in
    let count : c.len-step.result ≡ length c.self.inside.steps.items = search rules in
    subst (λ l. IsBindingOf l c.args.value.now (record { step = c.len-step.result; source = c.in-Some-latest.found.source; pair = c.in-Some-latest.found.pair })) c.self.view_is
    (inr (
      count ∙ sym (length-reverse c.self.inside.steps.items),
      number_shared c.self.inside.steps.items (values_of c.self.inside.numbers) (values_of c.self.inside.arrays) c.self.invariant c.len-step.result c.in-Some.symbol.now
          c.in-Some.ensures.1.0 c.in-Some.ensures.1.1 (omega (arith, count)) c.in-Some-latest.found found c.args.value.now c.in-Some.ensures.0,
    ))
