use Rattle.std.proofs.Common.{◌≡◌, ◌+◌, ◌++◌, drop}
use Rattle.c_types.specs.Functions.{kinds_of}
use Rattle.merged_program.specs.Programs.{parameters_from}
use Rattle.merged_program.proofs.functions.parameters.Given as goal

abbrev pub invariant-loop-index : goal.invariant-loop-index
invariant-loop-index l =
    l.all ++ parameters_from (l.index + 1) (kinds_of (drop l.index l.params)) ≡ parameters_from 1 (kinds_of l.params)
