use Rattle.std.proofs.Common.{◌≡◌, length}
use Rattle.merge_printer.specs.Programs.{shown_elements}
use Rattle.merge_printer.proofs.program.shown_elements.Given as goal

abbrev pub invariant-loop-rest : goal.invariant-loop-rest
invariant-loop-rest l = shown_elements l.shown ≡ shown_elements l.elements

abbrev pub decreases-loop-rest : goal.decreases-loop-rest
decreases-loop-rest l = length l.shown
