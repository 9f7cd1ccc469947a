use Rattle.std.proofs.Common.{◌∙◌, sym}
use Rattle.top_call.proofs.CommandLemmas.{unknown-word, run-is}
use Rattle.top_call.proofs.run_words.read_run.Goals as goal

pub returns-then-not-are_run_words : goal.returns-then-not-are_run_words
returns-then-not-are_run_words c = sym (unknown-word c.args.words.now (sym c.are_run_words.ensures ∙ c.if-not-are_run_words.true))

pub returns-in-Some-2 : goal.returns-in-Some-2
returns-in-Some-2 c =
    sym (run-is c.args.words.now c.in-Some.file.now c.in-Some-2.answers.items c.in-Some-steps_given.steps (sym c.are_run_words.ensures ∙ c.if-not-are_run_words.false)
    (sym (rw c.in-Some.is at c.in_ok-file.ensures)) (sym (rw c.in-Some-2.is at c.in_ok-answers.ensures)) (sym c.in-Some-steps_given.ensures))
