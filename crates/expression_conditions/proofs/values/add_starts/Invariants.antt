use Rattle.std.proofs.Common.{◌≡◌, ◌||◌, drop}
use Rattle.c_lang.specs.Names.{Bytes}
use Rattle.expression_conditions.specs.Candidates.{some_start}
use Rattle.expression_conditions.specs.Code.Sets.{has}
use Rattle.expression_conditions.proofs.values.add_starts.Given as goal

abbrev pub invariant-loop-global : goal.invariant-loop-global
invariant-loop-global l = (x : Bytes) → (some_start x l.globals || has l.initial.set x) ≡ (some_start x (drop l.global-index l.globals) || has l.set x)
