use Rattle.std.proofs.Common.{map, take, string_bytes}
use Rattle.top_call.specs.Words.{chosen}
use Rattle.c_lang.specs.Names.{behind}
use Rattle.top_call.specs.Seen.{IsChosen}
use Rattle.top_call.proofs.option_words.values_of.Given as goal

-- what the words so far give
abbrev pub invariant-loop-word : goal.invariant-loop-word
invariant-loop-word l = IsChosen (chosen (behind l.option) (map string_bytes (take l.word-index l.words))) l.values
