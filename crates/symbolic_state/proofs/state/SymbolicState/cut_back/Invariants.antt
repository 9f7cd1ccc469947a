use Rattle.std.proofs.Common.{◌≡◌, ◌-◌, length}
use Rattle.symbolic_state.specs.Steps.{outermost}
use Rattle.symbolic_state.proofs.state.SymbolicState.cut_back.Given as goal

-- the steps that stay are the same
abbrev pub invariant-loop-self : goal.invariant-loop-self
invariant-loop-self l = outermost l.mark l.self ≡ outermost l.mark l.fn.self

abbrev pub decreases-loop-self : goal.decreases-loop-self
decreases-loop-self l = length l.self - l.mark
