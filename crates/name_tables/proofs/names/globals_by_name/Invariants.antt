use Rattle.std.proofs.Common.{◌≤◌, drop, length}
use Rattle.name_tables.specs.Code.Filled.{HasGlobals}
use Rattle.name_tables.proofs.names.globals_by_name.Given as goal

abbrev pub invariant-loop-left : goal.invariant-loop-left
invariant-loop-left l = record {
  within : l.left ≤ length l.all;
  has_rest : HasGlobals l.globals (drop l.left l.all);
}

abbrev pub decreases-loop-left : goal.decreases-loop-left
decreases-loop-left l = l.left
