use Rattle.std.proofs.Common.{drop}
use Rattle.wp_conditions.specs.Code.Whole.{Runs}
use Rattle.wp_conditions.proofs.program.add_all.Given as goal

abbrev pub invariant-loop-func : goal.invariant-loop-func
invariant-loop-func l = Runs l.context l.initial.made l.funcs l.made (drop l.func-index l.funcs)
