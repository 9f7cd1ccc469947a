use Rattle.std.proofs.Common.{Err, sym, ap, ◌∙◌, subst}
use Rattle.loop_invariants.specs.Assigned.{lacking}
use Rattle.hint_reading.specs.Code.Parts.{RefusesItems, lacks, IsCheckedFor}
use Rattle.hint_reading.proofs.ReadingLaws.{fails}
use Rattle.hint_reading.proofs.read.checked.Goals as goal

pub returns-in-Err : goal.returns-in-Err
returns-in-Err c = subst (λ f. IsCheckedFor c.args.names.now c.args.items.now (Err f)) (sym c.failed.ensures)
    (fails c.args.names.now c.args.items.now c.in-Err.fault c.in-Err.ensures)

pub returns-in-Some : goal.returns-in-Some
returns-in-Some c = subst (RefusesItems c.args.names.now c.args.items.now) (sym c.at.ensures)
    (lacks c.in-Ok.ensures.0 c.in-Some.pos (ap (lacking c.args.names.now) (sym c.in-Ok.ensures.1) ∙ sym c.in_ok-lacking.ensures ∙ c.in-Some.is))
