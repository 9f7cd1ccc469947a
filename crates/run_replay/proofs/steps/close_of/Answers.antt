use Rattle.std.proofs.Common.{subst}
use Rattle.plain_run.specs.Runs.{Makes}
use Rattle.run_replay.specs.Closes.{ShowsItsEnd}
use Rattle.run_replay.proofs.EndLaws.{stopped_rests}
use Rattle.run_replay.proofs.steps.close_of.Goals as goal

pub end_of-requires : goal.end_of-requires
end_of-requires g c =
    let M = g.M.Stepping in
    let m = c.args.machine.now in
    let d = c.advance.new.self in
    let made =
    subst (λ s. Makes (M.next m (M.config m)) (M.config m) c.args.answers.now s (M.config d) c.advance.new.answers) c.in-Ok-Stopped.field-0-is c.in-Ok-Stopped.ensures.made in
    subst (λ x. ShowsItsEnd x c.args.events.now) (c.requires.rests (M.config m) (stopped_rests _ _ _ _ _ made)) c.requires.shown
