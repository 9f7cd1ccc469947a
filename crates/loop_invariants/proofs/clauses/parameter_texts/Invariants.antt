use Rattle.std.proofs.Common.{◌≡◌}
use Rattle.loop_invariants.specs.Clauses as spec
use Rattle.loop_invariants.proofs.clauses.parameter_texts.Given as goal

abbrev pub invariant-loop-before : goal.invariant-loop-before
invariant-loop-before l = record { texts : l.texts.items ≡ spec.parameter_texts l.before }
