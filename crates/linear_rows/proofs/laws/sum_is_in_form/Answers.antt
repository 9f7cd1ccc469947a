use Rattle.linear_rows.proofs.FormLaws.{From-sums}
use Rattle.linear_rows.proofs.laws.sum_is_in_form.Goals as goal

pub returns : goal.returns
returns c = λ left times right. From-sums times left.parts 0 right.parts
