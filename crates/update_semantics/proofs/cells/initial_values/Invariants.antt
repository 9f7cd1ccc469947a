use Rattle.std.proofs.Common.{◌≤◌, drop, length}
use Rattle.update_semantics.specs.Code.Cells.{HasValuesOf}
use Rattle.update_semantics.proofs.cells.initial_values.Given as goal

abbrev pub invariant-loop-left : goal.invariant-loop-left
invariant-loop-left l = record {
  within : l.left ≤ length l.globals;
  values : HasValuesOf l.meanings l.version l.values.entries (drop l.left l.globals);
}

abbrev pub decreases-loop-left : goal.decreases-loop-left
decreases-loop-left l = l.left
