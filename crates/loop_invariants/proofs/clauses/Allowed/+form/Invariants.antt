use Rattle.std.proofs.Common.{◌+◌, ◌*◌}
use Rattle.loop_invariants.proofs.clauses.Allowed.+form.Given as goal

abbrev pub decreases-denial : goal.decreases-denial
decreases-denial l = 2 * l.operators

abbrev pub decreases-form : goal.decreases-form
decreases-form l = 2 * l.operators + 1

abbrev pub decreases-forms : goal.decreases-forms
decreases-forms l = 2 * l.operators
