use Rattle.std.proofs.Common.{◌≡◌, map, drop}
use Rattle.expression_conditions.specs.Candidates.{value_functions}
use Rattle.loop_invariants.specs.Context.{context_of}
use Rattle.loop_invariants.specs.Assigned as spec
use Rattle.loop_invariants.proofs.assigned.first_too_few.Given as goal

abbrev pub invariant-loop-func : goal.invariant-loop-func
invariant-loop-func l = map (λ f. f.now) l.values ≡ value_functions l.names
    → spec.lacking l.names l.hints ≡ spec.first_too_few (context_of l.names l.hints) (drop l.func-index l.names.funcs)
