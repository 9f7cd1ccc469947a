use Rattle.std.proofs.Common.{Ok, subst}
use Rattle.cert_checker.specs.Code.Combined.{Combines}
use Rattle.cert_checker.proofs.FalseLaws.{closing-row}
use Rattle.cert_checker.proofs.close.closes_by_sum.Goals as goal

pub returns-in-Some : goal.returns-in-Some
returns-in-Some c = closing-row c.args.facts.now c.args.pairs.now c.in-Some.row c.combined.new.atoms.items c.is_false_row.result
    (subst (λ o. Combines c.args.facts.now c.args.pairs.now (Ok o) c.combined.new.atoms.items) c.in-Some.is c.in_ok-row.ensures) c.is_false_row.ensures
