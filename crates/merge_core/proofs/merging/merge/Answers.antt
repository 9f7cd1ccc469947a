use Rattle.std.proofs.Common.{sym, subst, ◌∙◌, List, ℤ, ◌↔◌}
use Rattle.c_lang.specs.declared.event.Event.{Event}
use Rattle.c_lang.specs.declared.unit.Unit.TheVariants.{Merge}
use Rattle.c_lang.specs.declared.program.Program.{Program}
use Rattle.c_types.specs.Kept.{IsKept}
use Rattle.merge_printer.specs.Checked.{IsCheckedMerge}
use Rattle.merged_runs.proofs.WorldTheorem.{world-shows}
use Rattle.plain_run.specs.PlainRun.{Obs}
use Rattle.update_semantics.specs.UpdatingRun.{ObsU}
use Rattle.update_semantics.specs.Worlds.{world_of}
use Rattle.merge_core.proofs.MergeLaws.{same_typed, kept, checked}
use Rattle.merge_core.proofs.merging.merge.Goals as goal

pub new-requires : goal.new-requires
new-requires c =
    subst (λ (P : Program). IsKept (record { unit = Merge; program = P })) (sym c.in_ok-program.ensures.program) (kept c.args.world.now c.in_ok-program.ensures.made)

pub returns-clause-program : goal.returns-clause-program
returns-clause-program c = c.new.ensures.1 ∙ c.in_ok-program.ensures.program

pub returns-clause-checked : goal.returns-clause-checked
returns-clause-checked c =
    subst IsCheckedMerge (sym (same_typed c.new.result _ c.new.ensures.0 (c.new.ensures.1 ∙ c.in_ok-program.ensures.program)))
    (checked c.args.world.now c.in_ok-program.ensures.made)

pub returns-clause-shows : goal.returns-clause-shows
returns-clause-shows c =
    subst (λ (P : Program). (answers : List ℤ) (h : List Event) → Obs P answers h ↔ ObsU (world_of c.args.world.now) answers h)
    (sym (c.new.ensures.1 ∙ c.in_ok-program.ensures.program)) (world-shows c.args.world.now c.in_ok-program.ensures.made)
