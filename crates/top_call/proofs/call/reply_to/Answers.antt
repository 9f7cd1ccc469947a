use Rattle.top_call.proofs.call.reply_to.Goals as goal

pub returns-in-Merge-clause-deep : goal.returns-in-Merge-clause-deep
returns-in-Merge-clause-deep g c = λ deep. absurd (c.merge_reply.ensures.shallow deep)

pub returns-in-Run-clause-deep : goal.returns-in-Run-clause-deep
returns-in-Run-clause-deep g c = rw (c.in-Run.is) (λ deep. c.run_reply.ensures.deep deep)

pub returns-in-Replay-clause-deep : goal.returns-in-Replay-clause-deep
returns-in-Replay-clause-deep g c = rw (c.in-Replay.is) (λ deep. c.replay_reply.ensures.deep deep)
