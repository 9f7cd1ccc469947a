use Rattle.formula_texts.proofs.TokenLaws.{value_never}
use Rattle.formula_texts.proofs.read.read_tokens.Goals as goal

pub returns-in-Err-NoText : goal.returns-in-Err-NoText
returns-in-Err-NoText c =
    let nothing = rw c.in-Err-NoText.field-0-is at c.in-Err-NoText.ensures in
    λ x. value_never c.args.limits.brackets c.args.limits.operators c.args.tokens.now x nothing
