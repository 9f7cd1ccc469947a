use Rattle.std.proofs.Common.{◌≡◌, ◌++◌}
use Rattle.merge_printer.specs.Statements.{more_ints}
use Rattle.merge_printer.proofs.declarations.put_more_ints.Given as goal

abbrev pub invariant-loop-left : goal.invariant-loop-left
invariant-loop-left l = l.out.items ++ more_ints l.left ≡ l.initial.out.items ++ more_ints l.count

abbrev pub decreases-loop-left : goal.decreases-loop-left
decreases-loop-left l = l.left
