use Rattle.std.proofs.Common.{◌≡◌, ◌≤◌, drop, length}
use Rattle.c_lang.specs.Names.{Bytes}
use Rattle.c_lang.specs.Programs.{global_named, initial_value}
use Rattle.plain_run.specs.Code.Names.{plain_function, seen_values}
use Rattle.plain_run.proofs.initial.initial_values.Given as goal

abbrev pub invariant-loop-left : goal.invariant-loop-left
invariant-loop-left l = record {
  within : l.left ≤ length l.globals;
  values : (x : Bytes) → seen_values plain_function l.values.entries x ≡ initial_value (λ f. f) (global_named (drop l.left l.globals) x);
}

abbrev pub decreases-loop-left : goal.decreases-loop-left
decreases-loop-left l = l.left
