use Rattle.std.proofs.Common.{◌≤◌, drop, length}
use Rattle.plain_run.specs.Code.Tables.{HasFuncs}
use Rattle.plain_run.proofs.indexed.IndexedProgram.new.Given as goal

abbrev pub invariant-loop-left : goal.invariant-loop-left
invariant-loop-left l = record {
  within : l.left ≤ length l.all;
  has_rest : HasFuncs l.funcs.entries (drop l.left l.all);
}

abbrev pub decreases-loop-left : goal.decreases-loop-left
decreases-loop-left l = l.left
