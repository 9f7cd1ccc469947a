use Rattle.formula_texts.proofs.AsciiLaws.{ascii_form, ascii_term, ascii_name}
use Rattle.formula_texts.proofs.laws.written_is_ascii.Goals as goal

pub returns-clause-form : goal.returns-clause-form
returns-clause-form c = ascii_form

pub returns-clause-term : goal.returns-clause-term
returns-clause-term c = ascii_term

pub returns-clause-name : goal.returns-clause-name
returns-clause-name c = ascii_name
