use Rattle.formula_texts.proofs.TokenLaws.{one_value}
use Rattle.formula_texts.proofs.laws.one_value.Goals as goal

pub returns : goal.returns
returns c = one_value
