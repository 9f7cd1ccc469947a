use Rattle.std.proofs.Common.{◌≡◌, ◌++◌}
use Rattle.formula_texts.specs.Code.Writing.{stack_text, weights}
use Rattle.formula_texts.proofs.write.put_all.Given as goal

abbrev pub invariant-loop-top : goal.invariant-loop-top
invariant-loop-top l = l.out.items ++ stack_text l.stack.items ≡ l.initial.out.items ++ stack_text l.initial.stack.items

abbrev pub decreases-loop-top : goal.decreases-loop-top
decreases-loop-top l = weights l.stack.items
