use Rattle.std.proofs.Common.{◌≡◌, [], reverse}
use Rattle.terms.specs.Nodes.{form_nodes}
use Rattle.cert_checker.specs.Places.{exchanged_form}
use Rattle.cert_checker.specs.Code.Exchanging.{exchanged_after, parts_work}
use Rattle.cert_checker.proofs.exchanged.exchanged.Given as goal

abbrev pub invariant-loop-next : goal.invariant-loop-next
invariant-loop-next l = exchanged_after l.from l.to (reverse l.parts.items) l.out.items ≡ form_nodes (exchanged_form l.from l.to l.form)

abbrev pub decreases-loop-next : goal.decreases-loop-next
decreases-loop-next l = parts_work (reverse l.parts.items)
