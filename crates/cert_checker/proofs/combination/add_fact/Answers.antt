use Rattle.std.proofs.Common.{subst, Ok}
use Rattle.std.specs.Int.{w128}
use Rattle.std.proofs.lemmas.Int.{to_z-of_z}
use Rattle.cert_checker.specs.Code.Combined.{IsRowAt, IsCheckedSum}
use Rattle.cert_checker.proofs.CombinedLaws.{add-answer}
use Rattle.cert_checker.proofs.combination.add_fact.Goals as goal

pub returns : goal.returns
returns c = λ line h. add-answer c.args.facts.now c.args.number c.args.times line c.args.sum.now c.in-Some.row c.args.atoms.now.items c.row_at.new.atoms.items c.checked_plus.result h
    (subst (λ o. IsRowAt c.args.facts.now c.args.number c.args.atoms.now.items (Ok o) c.row_at.new.atoms.items) c.in-Some.is c.in_ok-row.ensures)
    (subst (λ t. IsCheckedSum c.args.sum.now t c.in-Some.row c.checked_plus.result) (to_z-of_z w128 c.args.times c.ranges.times) c.checked_plus.ensures)
