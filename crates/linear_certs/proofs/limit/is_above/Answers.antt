use Rattle.std.proofs.Common.{rules, of_z, to_z, FitsSigned}
use Rattle.std.specs.Int.{w128}
use Rattle.linear_certs.proofs.SizeLaws.{unfit-product, read-size}
use Rattle.linear_certs.proofs.limit.is_above.Goals as goal

pub returns-in_err-first-clause-past : goal.returns-in_err-first-clause-past
returns-in_err-first-clause-past c = λ _ m n h1 h2 h3 h4.
    let num_fits : FitsSigned w128 c.args.limit.num = search rules in
    let den_fits : FitsSigned w128 c.args.other.den = search rules in
    unfit-product (to_z w128 (of_z w128 c.args.limit.num)) (to_z w128 (of_z w128 c.args.other.den)) m n c.in_err-first.ensures (read-size c.args.limit.num m num_fits h1) (read-size c.args.other.den n den_fits h4)

pub returns-in_err-second-clause-past : goal.returns-in_err-second-clause-past
returns-in_err-second-clause-past c = λ _ m n h1 h2 h3 h4.
    let num_fits : FitsSigned w128 c.args.other.num = search rules in
    let den_fits : FitsSigned w128 c.args.limit.den = search rules in
    unfit-product (to_z w128 (of_z w128 c.args.other.num)) (to_z w128 (of_z w128 c.args.limit.den)) m n c.in_err-second.ensures (read-size c.args.other.num m num_fits h2) (read-size c.args.limit.den n den_fits h3)
