use Rattle.std.proofs.Common.{◌≡◌, ◌++◌, drop, option_map}
use Rattle.top_call.specs.Numbers.{naturals}
use Rattle.top_call.proofs.numbers.naturals.Given as goal

-- the numbers so far and what is left give the whole
abbrev pub invariant-loop-number : goal.invariant-loop-number
invariant-loop-number l = option_map (λ ns. l.naturals.items ++ ns) (naturals (drop l.number-index l.numbers)) ≡ naturals l.numbers
