use Rattle.std.proofs.Common.{◌≡◌, Some, reverse}
use Rattle.terms.specs.Nodes.{form_nodes}
use Rattle.cert_checker.specs.Code.Exchanging.{parts_work}
use Rattle.cert_checker.specs.Code.Truths.{put_form, put_after}
use Rattle.cert_checker.proofs.truth.with_truth.Given as goal

abbrev pub invariant-loop-next : goal.invariant-loop-next
invariant-loop-next l = put_after l.by (reverse l.parts.items) l.left l.out.items ≡ form_nodes (put_form l.by l.form (Some l.fn.place)).0

abbrev pub decreases-loop-next : goal.decreases-loop-next
decreases-loop-next l = parts_work (reverse l.parts.items)
