use Rattle.linear_rows.proofs.FormLaws.{coefficient-sums}
use Rattle.linear_rows.proofs.laws.sum_has_coefficients.Goals as goal

pub returns : goal.returns
returns c = λ left times right. coefficient-sums times left.parts right.parts
