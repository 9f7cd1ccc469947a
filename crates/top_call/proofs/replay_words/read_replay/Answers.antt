use Rattle.std.proofs.Common.{◌∙◌, sym}
use Rattle.top_call.specs.Seen.{seen_points, seen_update_files}
use Rattle.top_call.proofs.CommandLemmas.{unknown-replay-word, replay-is}
use Rattle.top_call.proofs.replay_words.read_replay.Goals as goal

pub returns-then-not-are_replay_words : goal.returns-then-not-are_replay_words
returns-then-not-are_replay_words c = sym (unknown-replay-word c.args.words.now (sym c.are_replay_words.ensures ∙ c.if-not-are_replay_words.true))

pub returns-in-Some-3 : goal.returns-in-Some-3
returns-in-Some-3 c =
    sym (replay-is c.args.words.now (seen_update_files c.in-Some.files) (seen_points c.in-Some-2.points) c.in-Some-3.answers.items c.in-Some-steps_given.steps
    (sym c.are_replay_words.ensures ∙ c.if-not-are_replay_words.false) (sym (rw c.in-Some.is at c.in_ok-files.ensures))
    (sym (rw c.in-Some-2.is at c.in_ok-points.ensures)) (sym (rw c.in-Some-3.is at c.in_ok-answers.ensures)) (sym c.in-Some-steps_given.ensures))
