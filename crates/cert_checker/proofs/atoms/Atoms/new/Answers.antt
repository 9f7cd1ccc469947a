use Rattle.std.proofs.Common.{sym, subst}
use Rattle.std.specs.List.{IsDistinct}
use Rattle.terms.specs.Equality.{same_term}
use Rattle.cert_checker.proofs.atoms.Atoms.new.Goals as goal

pub invariant_of-result : goal.invariant_of-result
unfolding IsDistinct
invariant_of-result c = subst (IsDistinct same_term) (sym c.new.ensures.items) tt
