use Rattle.std.proofs.Common.{◌≡◌, map, take, string_bytes}
use Rattle.top_call.specs.Words.{chosen, file_in}
use Rattle.top_call.specs.Seen.{seen_text}
use Rattle.top_call.proofs.option_words.files_in.Given as goal

-- the files among the words so far
abbrev pub invariant-loop-word : goal.invariant-loop-word
invariant-loop-word l = map seen_text l.files.items ≡ chosen file_in (map string_bytes (take l.word-index l.words))
