use Rattle.std.proofs.Common.{◌≡◌, reverse, filter, slice_get}
use Rattle.terms.specs.Names.{terms_in_form}
use Rattle.cert_checker.specs.Code.Exchanging.{parts_work}
use Rattle.cert_checker.specs.Code.Finding.{is_wanted, wanted_left}
use Rattle.cert_checker.proofs.find.find.Given as goal

abbrev pub invariant-loop-next : goal.invariant-loop-next
invariant-loop-next l = slice_get (wanted_left l.wanted (reverse l.parts.items)) l.left ≡ slice_get (filter (is_wanted l.fn.wanted) (terms_in_form l.fn.form)) l.fn.place

abbrev pub decreases-loop-next : goal.decreases-loop-next
decreases-loop-next l = parts_work (reverse l.parts.items)
