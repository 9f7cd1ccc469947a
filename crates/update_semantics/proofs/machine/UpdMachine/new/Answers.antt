use Rattle.std.proofs.Common.{[], ap, ap₂, ◌∙◌}
use Rattle.c_lang.specs.declared.stmt.Dest.TheVariants.{Nowhere}
use Rattle.plain_run.specs.Steps.{Live, frame_of}
use Rattle.update_semantics.specs.UpdatingRun.{updating_access, entry_code}
use Rattle.update_semantics.specs.Worlds.{world_of}
use Rattle.update_semantics.proofs.machine.UpdMachine.new.Goals as goal

pub returns-clause-config : goal.returns-clause-config
returns-clause-config c =
    let N = updating_access (world_of c.args.world.now) in
    c.in_ok-run.ensures.config N
    ∙ ap₂ (λ g code. Live g (frame_of N code [] Nowhere) []) c.in_ok-names.ensures.state
    (c.entry-entry.ensures ∙ ap (λ w. entry_code (world_of w) w.client) c.in_ok-names.ensures.world)
