use Rattle.std.proofs.Common.{◌≡◌, drop}
use Rattle.c_types.specs.Programs as spec
use Rattle.c_types.proofs.declarations.add_globals.Given as goal

abbrev pub invariant-loop-g : goal.invariant-loop-g
invariant-loop-g l = spec.with_globals l.symbols (drop l.g-index l.globals) ≡ spec.with_globals l.initial.symbols l.globals
