use Rattle.std.proofs.Common.{◌≤◌, ◌+◌, ◌-◌, ◌*◌}
use Rattle.formula_texts.specs.Code.Reading as spec
use Rattle.formula_texts.specs.Code.Seen.{seen, IsWithin}
use Rattle.formula_texts.proofs.ReadingTurns.{IsLeft}
use Rattle.formula_texts.proofs.reader.+expression.Given as goal

abbrev pub decreases-expression : goal.decreases-expression
decreases-expression l = 6 * l.deep

abbrev pub decreases-array : goal.decreases-array
decreases-array l = 6 * l.deep

abbrev pub decreases-operand : goal.decreases-operand
decreases-operand l = 6 * l.below + 5

abbrev pub decreases-based : goal.decreases-based
decreases-based l = 6 * l.below + 4

abbrev pub decreases-element_at : goal.decreases-element_at
decreases-element_at l = 6 * l.below + 4

abbrev pub decreases-named : goal.decreases-named
decreases-named l = 6 * l.below + 3

abbrev pub decreases-index_at : goal.decreases-index_at
decreases-index_at l = 6 * l.below + 2

abbrev pub decreases-bracket : goal.decreases-bracket
decreases-bracket l = 6 * l.below + 2

abbrev pub decreases-truth_at : goal.decreases-truth_at
decreases-truth_at l = 6 * l.below + 2

abbrev pub decreases-store_at : goal.decreases-store_at
decreases-store_at l = 6 * l.below + 2

abbrev pub decreases-signed : goal.decreases-signed
decreases-signed l = 6 * l.below + 2

abbrev pub decreases-not_at : goal.decreases-not_at
decreases-not_at l = 6 * l.below + 2

abbrev pub invariant-expression-loop-operator : goal.invariant-expression-loop-operator
invariant-expression-loop-operator l = record {
  deep : 1 ≤ l.deep;
  size : IsWithin l.deep l.left.size;
  total : IsLeft (l.deep - 1) l.deep l.least (seen l.left) ((spec.readers l.deep).value l.least l.tokens);
}

abbrev pub decreases-expression-loop-operator : goal.decreases-expression-loop-operator
decreases-expression-loop-operator l = l.deep - l.left.size.height
