use Rattle.std.proofs.Common.{◌++◌, [], ◌∷◌, ◌∙◌, ap, sym, subst, reverse}
use Rattle.symbolic_state.specs.declared.step.Step.TheVariants as step
use Rattle.symbolic_state.specs.Code.Bindings.{values_of}
use Rattle.symbolic_state.specs.Code.Values.{HasTables, IsBindingOf}
use Rattle.symbolic_state.proofs.SetLaws.{set_more}
use Rattle.symbolic_state.proofs.state.SymbolicState.set.Goals as goal

pub invariant_of-self : goal.invariant_of-self
invariant_of-self c =
    subst (λ made. HasTables (reverse made) (values_of c.add_value.new.numbers) (values_of c.self.inside.arrays))
    (sym (c.in-Ok.ensures.steps ∙ ap (λ s. c.self.inside.steps.items ++ (step.Replaces s ∷ [])) c.in_ok-changes.ensures))
    (set_more c.self.inside.steps.items c.args.name.now c.args.value.now c.next_binding-binding.result (values_of c.self.inside.numbers) (values_of c.self.inside.arrays)
    (values_of c.add_value.new.numbers) c.self.invariant (subst (λ l. IsBindingOf l c.args.value.now c.next_binding-binding.result) (sym c.self.view_is) c.next_binding-binding.ensures) c.in-Ok.ensures.numbers)
