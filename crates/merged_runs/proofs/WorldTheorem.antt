-- The merged program of what the tool calls a world.
use Rattle.std.proofs.Common.{ℤ, List, ◌↔◌}
use Rattle.c_lang.specs.declared.event.Event.{Event}
use Rattle.plain_run.specs.PlainRun.{Obs}
use Rattle.update_semantics.specs.UpdatingRun.{ObsU}
use Rattle.update_semantics.specs.Worlds.{World, IsWorld, world_of}
use Rattle.merged_program.specs.Programs.{merged_program}
use Rattle.merged_runs.proofs.ClientFits.{client_fits}
use Rattle.merged_runs.proofs.Theorem.{shows-the-same}
use Rattle.merged_runs.proofs.TypedMain.{main-shared, kept-few}

pub world-shows : (w : World) → IsWorld w → (answers : List ℤ) (h : List Event) → Obs (merged_program (world_of w)) answers h ↔ ObsU (world_of w) answers h
world-shows w is =
    shows-the-same (world_of w) (main-shared w.old_prog w.new_prog is.old_kept is.new_kept) (kept-few w.old_prog is.old_kept)
    (client_fits (world_of w) w.old_prog.program w.new_prog.program w.client is.client)
