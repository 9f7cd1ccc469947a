use Rattle.std.proofs.Common.{sym, subst, map}
use Rattle.symbolic_state.specs.Code.Values.{IsCurrent}
use Rattle.symbolic_state.proofs.CurrentLaws.{entering_current}
use Rattle.symbolic_state.proofs.state.SymbolicState.enter.Goals as goal

pub replace-requires : goal.replace-requires
replace-requires c = subst IsCurrent (sym c.in_ok-entering.ensures) (entering_current (map (λ g. g.name) c.args.program.now.globals) (map (λ p. p.1) c.args.func.now.params))
