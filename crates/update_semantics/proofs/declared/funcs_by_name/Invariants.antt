use Rattle.std.proofs.Common.{◌≤◌, drop, length}
use Rattle.plain_run.specs.Code.Tables.{HasFuncs}
use Rattle.update_semantics.proofs.declared.funcs_by_name.Given as goal

abbrev pub invariant-loop-left : goal.invariant-loop-left
invariant-loop-left l = record {
  within : l.left ≤ length l.all;
  has_rest : HasFuncs l.funcs.entries (drop l.left l.all);
}

abbrev pub decreases-loop-left : goal.decreases-loop-left
decreases-loop-left l = l.left
