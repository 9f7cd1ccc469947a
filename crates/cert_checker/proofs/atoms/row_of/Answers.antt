use Rattle.cert_checker.proofs.DistinctLaws.{distinct-row}
use Rattle.cert_checker.proofs.atoms.row_of.Goals as goal

pub invariant_of-atoms : goal.invariant_of-atoms
invariant_of-atoms c = distinct-row c.as_ref.result c.atoms.inside.terms.items c.form_row.new.atoms.items c.form_row.result c.atoms.invariant c.form_row.ensures
