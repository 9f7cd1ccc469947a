use Rattle.std.proofs.Common.{rules, ◌≤◌, ◌^◌, ◌∙◌, ap, sym, subst, FitsSigned}
use Rattle.std.specs.Prelude.{unsigned_abs}
use Rattle.std.specs.Int.{w128}
use Rattle.std.proofs.lemmas.Int.{to_z-of_z}
use Rattle.linear_certs.proofs.PairLaws.{size-small}
use Rattle.linear_certs.proofs.pair.size_in.Goals as goal

pub returns-clause-small : goal.returns-clause-small
returns-clause-small c =
    let fit : FitsSigned w128 c.coefficient_of.result = search rules in
    let is = c.unsigned_abs.ensures.value ∙ ap unsigned_abs (to_z-of_z w128 _ fit) ∙ ap unsigned_abs c.coefficient_of.ensures in
    subst (λ n. n ≤ 2 ^ 100) (sym is) (size-small c.args.atom c.args.entry.now.row c.requires.small)
