use Rattle.std.proofs.Common.{◌≡◌, ◌++◌, drop}
use Rattle.merge_printer.specs.Programs.{more_parameters}
use Rattle.merge_printer.proofs.program.put_more_parameters.Given as goal

abbrev pub invariant-loop-param : goal.invariant-loop-param
invariant-loop-param l = l.out.items ++ more_parameters (drop l.param-index l.params) ≡ l.initial.out.items ++ more_parameters l.params
