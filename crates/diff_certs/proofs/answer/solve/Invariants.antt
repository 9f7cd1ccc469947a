use Rattle.diff_certs.specs.Code.Distances.{AreReached, weight}
use Rattle.diff_certs.proofs.answer.solve.Given as goal

abbrev pub invariant-loop-first : goal.invariant-loop-first
invariant-loop-first l = AreReached l.rows l.nodes.items

abbrev pub decreases-loop-first : goal.decreases-loop-first
decreases-loop-first l = weight l.nodes.items
