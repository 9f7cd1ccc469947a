use Rattle.formula_texts.proofs.WholeLaws.{form_never}
use Rattle.formula_texts.proofs.read.read_form.Goals as goal

pub returns-in-Err-NoText : goal.returns-in-Err-NoText
returns-in-Err-NoText c =
    let nothing = rw c.in-Err-NoText.field-0-is at c.in-Err-NoText.ensures in
    λ x. form_never c.args.text.now x nothing
