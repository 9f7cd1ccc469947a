use Rattle.std.proofs.Common.{◌≡◌, map, take}
use Rattle.loop_invariants.specs.Code.Seeking.{names_in}
use Rattle.loop_invariants.proofs.loops.parameter_names.Given as goal

abbrev pub invariant-loop-parameter : goal.invariant-loop-parameter
invariant-loop-parameter l = record { names : names_in l.names.items ≡ map (λ p. p.1) (take l.parameter-index l.func.params) }
