use Rattle.std.proofs.Common.{◌≡◌, drop}
use Rattle.c_types.specs.Programs as spec
use Rattle.c_types.proofs.declarations.check_each_proto.Given as goal

abbrev pub invariant-loop-p : goal.invariant-loop-p
invariant-loop-p l = spec.refusal_of_protos l.functions (drop l.p-index l.protos) ≡ spec.refusal_of_protos l.functions l.protos
