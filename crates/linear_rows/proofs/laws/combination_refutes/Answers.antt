use Rattle.linear_rows.proofs.CombinationLaws.{combination-refutes}
use Rattle.linear_rows.proofs.laws.combination_refutes.Goals as goal

pub returns : goal.returns
returns c = combination-refutes
