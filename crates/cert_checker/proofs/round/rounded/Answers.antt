use Rattle.std.proofs.Common.{Ok, subst}
use Rattle.std.specs.Int.{w128}
use Rattle.std.proofs.lemmas.Int.{to_z-of_z}
use Rattle.cert_checker.specs.Code.Made.{seen}
use Rattle.cert_checker.specs.Code.Combined.{Combines}
use Rattle.cert_checker.proofs.RoundRowLaws.{round-answer}
use Rattle.cert_checker.proofs.round.rounded.Goals as goal

pub returns-in-Some : goal.returns-in-Some
returns-in-Some c = round-answer seen c.args.facts.now c.args.pairs.now c.args.by _ c.in-Some.row c.combined.new.atoms.items c.as_slice.result.now c.round_row.result
    (subst (λ o. Combines c.args.facts.now c.args.pairs.now (Ok o) c.combined.new.atoms.items) c.in-Some.is c.in_ok-row.ensures) c.as_slice.ensures.value (to_z-of_z w128 c.args.by c.ranges.by) c.round_row.ensures
