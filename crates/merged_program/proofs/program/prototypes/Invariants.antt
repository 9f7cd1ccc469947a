use Rattle.std.proofs.Common.{◌≡◌, ◌++◌, drop, map}
use Rattle.merged_program.specs.Programs.{declared}
use Rattle.merged_program.proofs.program.prototypes.Given as goal

abbrev pub invariant-loop-f : goal.invariant-loop-f
invariant-loop-f l = l.all ++ map declared (drop l.f-index l.funcs) ≡ map declared l.funcs
