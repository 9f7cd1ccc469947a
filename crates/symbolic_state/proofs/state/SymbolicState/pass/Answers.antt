use Rattle.std.proofs.Common.{sym, subst}
use Rattle.symbolic_state.specs.Code.Values.{IsCurrent}
use Rattle.symbolic_state.proofs.CurrentLaws.{passing_current}
use Rattle.symbolic_state.proofs.state.SymbolicState.pass.Goals as goal

pub replace-requires : goal.replace-requires
replace-requires c = subst IsCurrent (sym c.in_ok-passing.ensures) (passing_current c.args.args.now)
