use Rattle.std.proofs.Common.{◌≡◌, ◌≤◌, drop, length}
use Rattle.c_lang.specs.Names.{Bytes}
use Rattle.c_lang.specs.Programs.{global_named, initial_elements}
use Rattle.plain_run.specs.Code.Names.{seen_arrays}
use Rattle.plain_run.proofs.arrays.initial_arrays.Given as goal

abbrev pub invariant-loop-left : goal.invariant-loop-left
invariant-loop-left l = record {
  within : l.left ≤ length l.globals;
  arrays : (x : Bytes) → seen_arrays l.arrays.entries x ≡ initial_elements (global_named (drop l.left l.globals) x);
}

abbrev pub decreases-loop-left : goal.decreases-loop-left
decreases-loop-left l = l.left
