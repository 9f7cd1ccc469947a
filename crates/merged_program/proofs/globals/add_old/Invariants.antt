use Rattle.std.proofs.Common.{◌≡◌, ◌++◌, drop, map}
use Rattle.version_names.specs.Provenance.{Old}
use Rattle.update_semantics.specs.Worlds.{world_of}
use Rattle.merged_program.specs.Programs.{merged_global}
use Rattle.merged_program.proofs.globals.add_old.Given as goal

abbrev pub invariant-loop-g : goal.invariant-loop-g
invariant-loop-g l =
    l.all ++ map (merged_global (world_of l.meanings) Old) (drop l.g-index l.globals) ≡ l.initial.all ++ map (merged_global (world_of l.meanings) Old) l.globals
