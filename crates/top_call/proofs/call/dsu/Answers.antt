use Rattle.top_call.proofs.HeadlineLemmas.{writes-merged-text, merges-what-is-accepted}
use Rattle.top_call.proofs.RunHeadlineLemmas.{writes-events, runs-what-is-accepted}
use Rattle.top_call.proofs.ReplayHeadlineLemmas.{writes-updated-events, replays-what-is-accepted}
use Rattle.top_call.proofs.call.dsu.Goals as goal

pub returns-clause-writes : goal.returns-clause-writes
returns-clause-writes g c = writes-merged-text _ _ _ c.answer_words.ensures.outcome

pub returns-clause-merges : goal.returns-clause-merges
returns-clause-merges g c = merges-what-is-accepted _ _ _ c.answer_words.ensures.outcome

pub returns-clause-shows : goal.returns-clause-shows
returns-clause-shows g c = writes-events _ _ _ c.answer_words.ensures.outcome

pub returns-clause-runs : goal.returns-clause-runs
returns-clause-runs g c = runs-what-is-accepted _ _ _ c.answer_words.ensures.outcome

pub returns-clause-replays : goal.returns-clause-replays
returns-clause-replays g c = writes-updated-events _ _ _ c.answer_words.ensures.outcome

pub returns-clause-accepts : goal.returns-clause-accepts
returns-clause-accepts g c = replays-what-is-accepted _ _ _ c.answer_words.ensures.outcome
