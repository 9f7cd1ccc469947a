use Rattle.std.proofs.Common.{◌≡◌, ◌++◌, drop, map}
use Rattle.c_lang.specs.Trees.{expr_of}
use Rattle.merged_program.specs.Statements.{values_of}
use Rattle.merged_program.proofs.expansions.arguments.Given as goal

abbrev pub invariant-loop-param : goal.invariant-loop-param
invariant-loop-param l = l.all ++ map expr_of (values_of (drop l.param-index l.params)) ≡ map expr_of (values_of l.params)
