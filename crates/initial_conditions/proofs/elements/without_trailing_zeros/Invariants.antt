use Rattle.std.proofs.Common.{◌≡◌, length}
use Rattle.initial_conditions.specs.Code.Elements.{without_trailing_zeros}
use Rattle.initial_conditions.proofs.elements.without_trailing_zeros.Given as goal

-- what was left off changes nothing
abbrev pub invariant-loop-last : goal.invariant-loop-last
invariant-loop-last l = without_trailing_zeros l.kept ≡ without_trailing_zeros l.elements

abbrev pub decreases-loop-last : goal.decreases-loop-last
decreases-loop-last l = length l.kept
