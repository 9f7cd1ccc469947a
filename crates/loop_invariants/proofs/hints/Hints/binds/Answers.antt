use Rattle.std.proofs.Common.{subst}
use Rattle.loop_invariants.specs.Hints.{HintsBind}
use Rattle.loop_invariants.proofs.hints.Hints.binds.Goals as goal

pub returns : goal.returns
returns c = subst HintsBind c.self.view_is c.self.invariant
