use Rattle.std.proofs.Common.{◌≡◌, ◌++◌, drop, map}
use Rattle.std.specs.List.{filter}
use Rattle.version_names.specs.Provenance.{New}
use Rattle.update_semantics.specs.Worlds.{world_of}
use Rattle.merged_program.specs.Programs.{merged_global, is_own_cell}
use Rattle.merged_program.proofs.globals.add_new.Given as goal

abbrev pub invariant-loop-g : goal.invariant-loop-g
invariant-loop-g l =
    l.all ++ map (merged_global (world_of l.meanings) New) (filter (is_own_cell (world_of l.meanings)) (drop l.g-index l.globals))
    ≡ l.initial.all ++ map (merged_global (world_of l.meanings) New) (filter (is_own_cell (world_of l.meanings)) l.globals)
