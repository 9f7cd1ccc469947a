use Rattle.std.proofs.Common.{ap, ◌∙◌, rules}
use Rattle.symbolic_state.specs.Steps.{outermost}
use Rattle.symbolic_state.proofs.StepLaws.{outer_dropped}
use Rattle.symbolic_state.proofs.state.SymbolicState.cut_back.Goals as goal

pub loop-self-preserved : goal.loop-self-preserved
loop-self-preserved c = ap (outermost c.args.mark) c.take_back.ensures ∙ outer_dropped c.args.mark c.loop-self.self (search rules) ∙ c.loop-self.invariant
