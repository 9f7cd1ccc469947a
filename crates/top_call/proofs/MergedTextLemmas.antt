-- The text of a merged program is what `merge` has to write.
use Rattle.std.proofs.Common.{◌≡◌, ◌∙◌, ◌↔◌, ap, sym, subst, ℕ, ℤ, List, Option}
use Rattle.c_lang.specs.declared.event.Event.{Event}
use Rattle.c_lang.specs.declared.unit.Unit.TheVariants.{Merge}
use Rattle.c_lang.specs.declared.program.Program.{Program}
use Rattle.c_types.specs.Kept.{TypedProgram}
use Rattle.c_parser.proofs.WrittenLaws.{one_of_text}
use Rattle.merge_printer.specs.Checked.{ChecksAs}
use Rattle.plain_run.specs.PlainRun.{Obs}
use Rattle.update_semantics.specs.UpdatingRun.{World, ObsU}
use Rattle.front_end.specs.Worlds.{Texts, IsAccepted}
use Rattle.top_call.specs.Words.{Text}
use Rattle.top_call.specs.MergedText.{IsMergedText}

pub is-merged-text : (points : Option (List ℕ)) (ts : Texts) (text : Text) (W : World) (merged : TypedProgram)
    → IsAccepted points ts W → ChecksAs text merged
    → ((answers : List ℤ) (h : List Event) → Obs merged.program answers h ↔ ObsU W answers h)
    → IsMergedText points ts text
is-merged-text points ts text W merged accepted checks shows = record {
  world = W;
  accepted = accepted;
  program = checks.program;
  parses = checks.parses;
  only = λ other parses. one_of_text Merge _ _ text other checks.program parses checks.parses;
  typed = checks.typed;
  shows = subst (λ (P : Program). (answers : List ℤ) (h : List Event) → Obs P answers h ↔ ObsU W answers h) (ap (λ (t : TypedProgram). t.program) checks.resolved) shows;
}
