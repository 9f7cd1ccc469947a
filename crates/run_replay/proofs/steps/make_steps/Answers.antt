use Rattle.std.proofs.Common.{◌+◌, inl, inr, Vec, Global, ◌++◌, sym, ap, ◌∙◌, subst, append-nil, arith}
use Rattle.c_lang.specs.declared.event.Event.{Event}
use Rattle.plain_run.specs.Runs.{Makes, IsTooDeep}
use Rattle.plain_run.specs.declared.step.RunError.TheVariants.{Deep}
use Rattle.run_replay.specs.Code.After.{IsAfter, shown_of}
use Rattle.run_replay.proofs.AfterLaws.{after_step, after_still, gets_deep, IsErrOf-other}
use Rattle.run_replay.proofs.ReachedLaws.{IsStill}
use Rattle.run_replay.proofs.steps.make_steps.Goals as goal
use Rattle.run_replay.proofs.steps.make_steps.Goals.{in-Quiet, in-Shown+in_ok-push-in-Shown}

pub loop-preserved : goal.loop-preserved
loop-preserved g c =
    let M = g.M.Stepping in
    let m = c.args.machine.now in
    let r = c.loop.machine in
    let d = c.advance.new.self in
    let b = c.advance.new.answers in
    let a = c.args.answers.now in
    let n = c.loop.counter in
    let es = c.loop.events.items in
    let same = c.loop.invariant.next in
    let made = subst (λ next. Makes (next (M.config r)) (M.config r) c.loop.answers c.in-Ok.step (M.config d) b) same c.in-Ok.ensures.made in
    let after = after_step (M.next m) (M.config m) a n (M.config r) c.loop.answers es c.loop.invariant.after c.requires.ends c.in-Ok.step (M.config d) b c.in-Ok.ensures.depth made in
    record {
      next = c.in-Ok.ensures.next ∙ same;
      after = elim c.match-step.branch [
        | in-Quiet w ↦
            subst (IsAfter (M.next m) (M.config m) a (n + 1) (M.config d) b)
            (ap (λ s. es ++ shown_of s) w.in-Quiet.is ∙ append-nil es ∙ ap (λ (v : Vec Event Global). v.items) (sym w.events-is)) after
        | in-Shown+in_ok-push-in-Shown w ↦
            subst (IsAfter (M.next m) (M.config m) a (n + 1) (M.config d) b)
            (ap (λ s. es ++ shown_of s) w.in-Shown.is ∙ sym w.in_ok-push-in-Shown.ensures.items ∙ ap (λ (v : Vec Event Global). v.items) (sym w.events-is)) after
      ];
    }

pub returns-in-Err-clause-deep : goal.returns-in-Err-clause-deep
returns-in-Err-clause-deep g c = λ deep.
    let M = g.M.Stepping in
    let m = c.args.machine.now in
    let r = c.loop.machine in
    gets_deep (M.next m) (M.config m) c.args.answers.now c.loop.counter (M.config r) c.loop.answers c.loop.events.items c.loop.invariant.after c.args.steps
    (omega arith)
    (subst (λ next. IsTooDeep (next (M.config r)) c.loop.answers) c.loop.invariant.next (c.in-Err.ensures.deep (IsErrOf-other c.in-Err.error Deep deep)))

pub returns-in-Waiting-clause-after : goal.returns-in-Waiting-clause-after
returns-in-Waiting-clause-after g c =
    let M = g.M.Stepping in
    let m = c.args.machine.now in
    let r = c.loop.machine in
    let d = c.advance.new.self in
    let b = c.advance.new.answers in
    let made = subst (λ next. Makes (next (M.config r)) (M.config r) c.loop.answers c.in-Ok.step (M.config d) b) c.loop.invariant.next c.in-Ok.ensures.made in
    after_still (M.next m) (M.config m) c.args.answers.now c.loop.counter (M.config r) c.loop.answers c.loop.events.items c.in-Ok.step (M.config d) b
    c.args.steps c.requires.ends c.loop.invariant.after (elim c.in-Waiting.is [ inl e ↦ subst IsStill (sym e) tt | inr e ↦ subst IsStill (sym e) tt ]) (omega arith)
    c.in-Ok.ensures.depth made
