use Rattle.std.proofs.Common.{All, sym, subst}
use Rattle.loop_invariants.specs.Binding.{BindsBound}
use Rattle.loop_invariants.proofs.BindingLaws.{needs_bind}
use Rattle.loop_invariants.proofs.hints.Hints.needs.Goals as goal

pub invariant_of-result : goal.invariant_of-result
invariant_of-result c = subst (All BindsBound) (sym c.needed.ensures) (needs_bind c.args.self.now c.args.func.now c.binds.ensures)
