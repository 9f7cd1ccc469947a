use Rattle.std.proofs.Common.{◌∙◌, ap, sym, map, take, string_bytes, List}
use Rattle.top_call.specs.Words.{Text, chosen, added, file_in}
use Rattle.top_call.proofs.OptionWordLemmas.{chosen-next}
use Rattle.top_call.proofs.option_words.files_in.Goals as goal

pub loop-word-preserved : goal.loop-word-preserved
loop-word-preserved c =
    let words = c.args.words.now in
    let i = c.loop-word.word-index in
    let before = chosen file_in (map string_bytes (take i words)) in
    let next = chosen-next file_in words i c.word-item.result c.loop-word-test.true c.word-item.is in
    c.in_ok-add_file.ensures ∙ ap (λ (texts : List Text). added texts (file_in c.as_str.result.now)) c.loop-word.invariant
    ∙ ap (λ (word : Text). added before (file_in word)) c.as_str.ensures.value ∙ sym next
