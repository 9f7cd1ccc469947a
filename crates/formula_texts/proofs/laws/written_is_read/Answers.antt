use Rattle.formula_texts.proofs.WrittenLaws.{written_form, written_term, written_name}
use Rattle.formula_texts.proofs.laws.written_is_read.Goals as goal

pub returns-clause-form : goal.returns-clause-form
returns-clause-form c = written_form

pub returns-clause-term : goal.returns-clause-term
returns-clause-term c = written_term

pub returns-clause-name : goal.returns-clause-name
returns-clause-name c = written_name
