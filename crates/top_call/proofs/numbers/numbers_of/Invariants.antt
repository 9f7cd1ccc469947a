use Rattle.std.proofs.Common.{◌≡◌, ◌++◌, length, option_map}
use Rattle.std.specs.Str.{IsUtf8}
use Rattle.top_call.specs.Numbers.{pieces, all_numbers}
use Rattle.top_call.proofs.numbers.numbers_of.Given as goal

-- with the numbers of the rest the whole list is there
abbrev pub invariant-loop-piece : goal.invariant-loop-piece
invariant-loop-piece l =
    (option_map (λ zs. l.numbers.items ++ zs) (all_numbers (pieces l.rest)) ≡ all_numbers (pieces l.fn.text)) × IsUtf8 l.rest

abbrev pub decreases-loop-piece : goal.decreases-loop-piece
decreases-loop-piece l = length l.rest
