use Rattle.std.proofs.Common.{◌≡◌, ◌++◌, drop}
use Rattle.c_types.specs.Functions as spec
use Rattle.c_types.proofs.functions.kinds_of.Given as goal

abbrev pub invariant-loop-p : goal.invariant-loop-p
invariant-loop-p l = l.all ++ spec.kinds_of (drop l.p-index l.params) ≡ spec.kinds_of l.params
