use Rattle.std.proofs.Common.{subst}
use Rattle.symbolic_state.specs.Code.Joined.{GivesBound}
use Rattle.symbolic_state.proofs.state.SymbolicState.gives_bound.Goals as goal

pub returns : goal.returns
returns c = subst GivesBound c.self.view_is c.self.invariant.gives
