use Rattle.std.proofs.Common.{All, sym, subst}
use Rattle.loop_invariants.specs.Binding.{BindsBound}
use Rattle.loop_invariants.proofs.BindingLaws.{promises_bind}
use Rattle.loop_invariants.proofs.hints.Hints.promises.Goals as goal

pub invariant_of-result : goal.invariant_of-result
invariant_of-result c = subst (All BindsBound) (sym c.promised.ensures) (promises_bind c.args.self.now c.args.func.now c.binds.ensures)
