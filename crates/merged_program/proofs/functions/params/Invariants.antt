use Rattle.std.proofs.Common.{◌≡◌, ◌++◌, drop, map}
use Rattle.update_semantics.specs.Linked.{provenance_of}
use Rattle.update_semantics.specs.Worlds.{world_of}
use Rattle.merged_program.specs.Programs.{merged_param}
use Rattle.merged_program.proofs.functions.params.Given as goal

abbrev pub invariant-loop-param : goal.invariant-loop-param
invariant-loop-param l =
    l.all ++ map (merged_param (world_of l.meanings) (provenance_of l.origin)) (drop l.param-index l.params)
    ≡ map (merged_param (world_of l.meanings) (provenance_of l.origin)) l.params
