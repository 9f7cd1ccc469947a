use Rattle.std.proofs.Common.{◌+◌, ◌*◌}
use Rattle.loop_invariants.proofs.clauses.Allowed.+term.Given as goal

abbrev pub decreases-element : goal.decreases-element
decreases-element l = 2 * l.operators

abbrev pub decreases-term : goal.decreases-term
decreases-term l = 2 * l.operators + 1

abbrev pub decreases-terms : goal.decreases-terms
decreases-terms l = 2 * l.operators
