use Rattle.formula_texts.proofs.WholeLaws.{one_form, one_term, one_name}
use Rattle.formula_texts.proofs.laws.one_meaning.Goals as goal

pub returns-clause-form : goal.returns-clause-form
returns-clause-form c = one_form

pub returns-clause-term : goal.returns-clause-term
returns-clause-term c = one_term

pub returns-clause-name : goal.returns-clause-name
returns-clause-name c = one_name
