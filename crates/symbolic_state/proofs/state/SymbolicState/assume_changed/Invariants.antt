use Rattle.std.proofs.Common.{◌≡◌, map, drop}
use Rattle.terms.specs.Replacing.{change_in, replaced_fact}
use Rattle.symbolic_state.specs.Steps.{assumed}
use Rattle.symbolic_state.proofs.state.SymbolicState.assume_changed.Given as goal

-- what is left to be given leads to the whole
abbrev pub invariant-loop-fact : goal.invariant-loop-fact
invariant-loop-fact l = assumed (map (replaced_fact (change_in l.by)) (drop l.fact-index l.facts)) l.self
    ≡ assumed (map (replaced_fact (change_in l.by)) l.facts) l.fn.self
