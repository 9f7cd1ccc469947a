use Rattle.std.proofs.Common.{◌≡◌, ◌∙◌, ap, subst, reverse, length, rules}
use Rattle.symbolic_state.specs.Code.Bindings.{values_of}
use Rattle.symbolic_state.specs.Code.Values.{HasTables, numbers_of, arrays_of, unbound_by}
use Rattle.symbolic_state.proofs.StepValues.{made_less}
use Rattle.symbolic_state.proofs.state.SymbolicState.take_back.Goals as goal

pub invariant_of-self : goal.invariant_of-self
invariant_of-self c =
    let number : c.len-number.result ≡ length c.pop.new.self.items = search rules in
    made_less c.pop.new.self.items c.in-Some.step (values_of c.self.inside.numbers) (values_of c.self.inside.arrays) (values_of c.forget.new.numbers) (values_of c.forget.new.arrays)
    (subst (λ l. HasTables (reverse l) (values_of c.self.inside.numbers) (values_of c.self.inside.arrays)) c.in-Some.ensures.items c.self.invariant)
    (λ x. c.forget.ensures.numbers x ∙ ap (λ k. unbound_by k (numbers_of c.in-Some.step) x (values_of c.self.inside.numbers x)) number)
    (λ x. c.forget.ensures.arrays x ∙ ap (λ k. unbound_by k (arrays_of c.in-Some.step) x (values_of c.self.inside.arrays x)) number)
