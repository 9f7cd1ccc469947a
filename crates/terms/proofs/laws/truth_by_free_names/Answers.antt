use Rattle.terms.proofs.NameLaws.{term_at-agree, array_at-agree, form_at-agree, FactAt-agree}
use Rattle.terms.proofs.laws.truth_by_free_names.Goals as goal

pub returns-clause-terms : goal.returns-clause-terms
returns-clause-terms c = term_at-agree

pub returns-clause-arrays : goal.returns-clause-arrays
returns-clause-arrays c = array_at-agree

pub returns-clause-forms : goal.returns-clause-forms
returns-clause-forms c = form_at-agree

pub returns-clause-facts : goal.returns-clause-facts
returns-clause-facts c = FactAt-agree
