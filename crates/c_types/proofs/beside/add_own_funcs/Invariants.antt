use Rattle.std.proofs.Common.{◌≡◌, drop}
use Rattle.c_types.specs.Beside as spec
use Rattle.c_types.proofs.beside.add_own_funcs.Given as goal

abbrev pub invariant-loop-f : goal.invariant-loop-f
invariant-loop-f l = spec.with_own_funcs l.denied l.symbols (drop l.f-index l.funcs) ≡ spec.with_own_funcs l.denied l.initial.symbols l.funcs
