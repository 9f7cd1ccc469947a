use Rattle.std.proofs.Common.{◌≡◌, ◌++◌, drop}
use Rattle.merge_printer.specs.Programs.{more_numbers}
use Rattle.merge_printer.proofs.program.put_more_numbers.Given as goal

abbrev pub invariant-loop-number : goal.invariant-loop-number
invariant-loop-number l = l.out.items ++ more_numbers (drop l.number-index l.numbers) ≡ l.initial.out.items ++ more_numbers l.numbers
