use Rattle.std.proofs.Common.{◌≡◌, drop}
use Rattle.c_types.specs.Programs as spec
use Rattle.c_types.proofs.programs.has_main.Given as goal

abbrev pub invariant-loop-f : goal.invariant-loop-f
invariant-loop-f l = spec.has_main (drop l.f-index l.funcs) ≡ spec.has_main l.funcs
