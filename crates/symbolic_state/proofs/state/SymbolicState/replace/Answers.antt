use Rattle.std.proofs.Common.{sym, subst, reverse}
use Rattle.symbolic_state.specs.declared.step.Step.TheVariants as step
use Rattle.symbolic_state.specs.Code.Bindings.{values_of}
use Rattle.symbolic_state.specs.Code.Values.{HasTables}
use Rattle.symbolic_state.proofs.StepValues.{made_more}
use Rattle.symbolic_state.proofs.state.SymbolicState.replace.Goals as goal

pub invariant_of-self : goal.invariant_of-self
invariant_of-self c =
    subst (λ made. HasTables (reverse made) (values_of c.add_changes.new.numbers) (values_of c.add_changes.new.arrays)) (sym c.in-Ok.ensures.steps)
    (made_more c.self.inside.steps.items (step.Replaces c.args.changes) (values_of c.self.inside.numbers) (values_of c.self.inside.arrays)
    (values_of c.add_changes.new.numbers) (values_of c.add_changes.new.arrays) c.self.invariant c.self.invariant.gives c.requires c.in-Ok.ensures.numbers c.in-Ok.ensures.arrays)
