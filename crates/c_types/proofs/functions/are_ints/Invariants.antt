use Rattle.std.proofs.Common.{◌≡◌, drop}
use Rattle.c_types.specs.Functions as spec
use Rattle.c_types.proofs.functions.are_ints.Given as goal

abbrev pub invariant-loop-kind : goal.invariant-loop-kind
invariant-loop-kind l = spec.are_ints (drop l.kind-index l.kinds) ≡ spec.are_ints l.kinds
