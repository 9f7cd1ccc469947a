use Rattle.std.proofs.Common.{◌≡◌, ◌++◌, drop, map}
use Rattle.std.specs.List.{filter}
use Rattle.update_semantics.specs.Worlds.{world_of}
use Rattle.merged_program.specs.Programs.{wrapper, is_wrapped}
use Rattle.merged_program.proofs.functions.add_wrappers.Given as goal

abbrev pub invariant-loop-f : goal.invariant-loop-f
invariant-loop-f l =
    l.all ++ map wrapper (filter (is_wrapped (world_of l.meanings)) (drop l.f-index l.funcs))
    ≡ l.initial.all ++ map wrapper (filter (is_wrapped (world_of l.meanings)) l.funcs)
