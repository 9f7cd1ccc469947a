use Rattle.std.proofs.Common.{◌∙◌, sym}
use Rattle.top_call.specs.Seen.{seen_points, seen_update_files}
use Rattle.top_call.proofs.CommandLemmas.{unknown-merge-word, merge-is}
use Rattle.top_call.proofs.merge_words.read_merge.Goals as goal

pub returns-then-not-are_merge_words : goal.returns-then-not-are_merge_words
returns-then-not-are_merge_words c = sym (unknown-merge-word c.args.words.now (sym c.are_merge_words.ensures ∙ c.if-not-are_merge_words.true))

pub returns-in-Some-2 : goal.returns-in-Some-2
returns-in-Some-2 c =
    sym (merge-is c.args.words.now (seen_update_files c.in-Some.files) (seen_points c.in-Some-2.points)
    (sym c.are_merge_words.ensures ∙ c.if-not-are_merge_words.false) (sym (rw c.in-Some.is at c.in_ok-files.ensures))
    (sym (rw c.in-Some-2.is at c.in_ok-points.ensures)))
