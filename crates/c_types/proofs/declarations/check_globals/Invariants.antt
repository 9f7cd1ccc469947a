use Rattle.std.proofs.Common.{◌≡◌, drop}
use Rattle.c_types.specs.Programs as spec
use Rattle.c_types.proofs.declarations.check_globals.Given as goal

abbrev pub invariant-loop-g : goal.invariant-loop-g
invariant-loop-g l = record {
  first : spec.refusal_of_globals l.early l.outside l.seen l.left (drop l.g-index l.globals)
      ≡ spec.refusal_of_globals l.early l.outside l.initial.seen l.room l.globals;
  seen : spec.with_globals l.seen (drop l.g-index l.globals) ≡ spec.with_globals l.initial.seen l.globals;
}
