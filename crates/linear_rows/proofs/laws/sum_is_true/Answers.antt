use Rattle.linear_rows.proofs.SumLaws.{dot-sums}
use Rattle.linear_rows.proofs.laws.sum_is_true.Goals as goal

pub returns : goal.returns
returns c = λ point left times right. dot-sums point times left.parts right.parts
