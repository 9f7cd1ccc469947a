use Rattle.std.proofs.Common.{◌≡◌, drop}
use Rattle.symbolic_state.specs.Steps.{assumed}
use Rattle.symbolic_state.proofs.state.SymbolicState.assume_all.Given as goal

-- what is left to be given leads to the whole
abbrev pub invariant-loop-fact : goal.invariant-loop-fact
invariant-loop-fact l = assumed (drop l.fact-index l.facts) l.self ≡ assumed l.facts l.fn.self
