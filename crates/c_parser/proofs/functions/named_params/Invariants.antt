use Rattle.std.proofs.Common.{[], ◌≡◌, drop}
use Rattle.c_parser.specs.Code.UnitReading as spec
use Rattle.c_parser.proofs.functions.named_params.Given as goal

abbrev pub invariant-loop-param : goal.invariant-loop-param
invariant-loop-param l = spec.named_params l.named (drop l.param-index l.params) ≡ spec.named_params [] l.params
