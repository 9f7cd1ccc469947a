use Rattle.std.proofs.Common.{◌≡◌, drop}
use Rattle.c_types.specs.Functions as spec
use Rattle.c_types.proofs.functions.any_wide.Given as goal

abbrev pub invariant-loop-kind : goal.invariant-loop-kind
invariant-loop-kind l = spec.any_wide (drop l.kind-index l.kinds) ≡ spec.any_wide l.kinds
