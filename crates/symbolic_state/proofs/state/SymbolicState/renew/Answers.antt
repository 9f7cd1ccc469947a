use Rattle.std.proofs.Common.{sym, subst}
use Rattle.symbolic_state.specs.Code.Values.{IsCurrent}
use Rattle.symbolic_state.proofs.CurrentLaws.{renewing_current}
use Rattle.symbolic_state.proofs.state.SymbolicState.renew.Goals as goal

pub replace-requires : goal.replace-requires
replace-requires c = subst IsCurrent (sym c.in_ok-renewing.ensures) (renewing_current c.args.fresh.now)
