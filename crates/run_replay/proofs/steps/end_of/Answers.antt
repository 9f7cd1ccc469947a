use Rattle.std.proofs.Common.{sym, ap, subst, ◌∙◌, [], ◌∷◌, ◌++◌}
use Rattle.run_replay.specs.Closes.{IsEnd}
use Rattle.run_replay.proofs.EndLaws.{last_is}
use Rattle.run_replay.proofs.steps.end_of.Goals as goal

pub returns-in-Some : goal.returns-in-Some
returns-in-Some c =
    let same = last_is c.args.events.now c.requires.0 c.in-Some.event.now c.requires.1.0 c.in-Some.ensures.value in
    let front = c.requires.1.0.0 in
    subst (λ es. IsEnd es c.close_after.result) (ap (λ e. front ++ e ∷ []) same ∙ sym c.requires.1.0.1) (c.close_after.ensures front)
