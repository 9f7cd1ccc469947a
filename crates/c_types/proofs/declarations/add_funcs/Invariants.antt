use Rattle.std.proofs.Common.{◌≡◌, drop}
use Rattle.c_types.specs.Programs as spec
use Rattle.c_types.proofs.declarations.add_funcs.Given as goal

abbrev pub invariant-loop-f : goal.invariant-loop-f
invariant-loop-f l = spec.with_funcs l.symbols (drop l.f-index l.funcs) ≡ spec.with_funcs l.initial.symbols l.funcs
