use Rattle.std.proofs.Common.{◌≡◌, ◌++◌, drop}
use Rattle.update_semantics.specs.Linked.{provenance_of}
use Rattle.merged_program.specs.Code.Built as built
use Rattle.merged_program.proofs.expressions.arguments.Given as goal

abbrev pub invariant-loop-e : goal.invariant-loop-e
invariant-loop-e l =
    l.all ++ built.expressions l.meanings (provenance_of l.origin) (drop l.e-index l.args) ≡ built.expressions l.meanings (provenance_of l.origin) l.args
