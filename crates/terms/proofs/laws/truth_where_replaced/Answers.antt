use Rattle.terms.proofs.ReplacingLaws.{term_at-replaced, array_at-replaced, form_at-replaced, FactAt-changed}
use Rattle.terms.proofs.laws.truth_where_replaced.Goals as goal

pub returns-clause-terms : goal.returns-clause-terms
returns-clause-terms c = term_at-replaced

pub returns-clause-arrays : goal.returns-clause-arrays
returns-clause-arrays c = λ change v a k i. array_at-replaced change v a i k

pub returns-clause-forms : goal.returns-clause-forms
returns-clause-forms c = form_at-replaced

pub returns-clause-facts : goal.returns-clause-facts
returns-clause-facts c = FactAt-changed
