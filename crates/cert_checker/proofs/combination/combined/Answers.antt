use Rattle.std.proofs.Common.{◌≡◌, ◌∙◌, ℕ, ℤ, pos, ◌+◌, ◌∷◌, get_or, drop, sym, subst, ap, Ok, Some, None, add-one, FitsSigned, rules}
use Rattle.std.specs.Int.{w128}
use Rattle.std.proofs.lemmas.Int.{to_z-of_z}
use Rattle.std.proofs.Math.Seq.{drop-cons}
use Rattle.cert_checker.specs.Rows.{added, combination}
use Rattle.cert_checker.specs.Code.Combined.{AddsTo}
use Rattle.cert_checker.proofs.CombinedLaws.{begins, goes-on, stops}
use Rattle.cert_checker.proofs.combination.combined.Goals as goal

pub loop-pair-init : goal.loop-pair-init
loop-pair-init c = begins c.args.facts.now c.args.pairs.now c.number_row-sum.result c.args.atoms.now.items c.number_row-sum.ensures c.requires

pub returns-in_default : goal.returns-in_default
returns-in_default c =
    let p : ℕ × ℤ = get_or c.args.pairs.now c.loop-pair.pair-index (0, pos 0) in
    let fit : FitsSigned w128 p.1 = search rules in
    let left : added c.args.facts.now (p ∷ drop (c.loop-pair.pair-index + 1) c.args.pairs.now) c.loop-pair.invariant.line ≡ combination c.args.facts.now c.args.pairs.now
    = ap (λ l. added c.args.facts.now l c.loop-pair.invariant.line) (ap (λ n. p ∷ drop n c.args.pairs.now) (add-one c.loop-pair.pair-index) ∙ sym (drop-cons c.args.pairs.now c.loop-pair.pair-index (0, pos 0) c.loop-pair-test.true)) ∙ c.loop-pair.invariant.left in
    let step : AddsTo c.args.facts.now p.0 p.1 c.loop-pair.invariant.line (Ok None) c.add_fact.new.atoms.items =
    subst (λ o. AddsTo c.args.facts.now p.0 p.1 c.loop-pair.invariant.line (Ok o) c.add_fact.new.atoms.items) c.in_default.is
    (subst (λ t. AddsTo c.args.facts.now p.0 t c.loop-pair.invariant.line (Ok c.in_ok-next.field-0) c.add_fact.new.atoms.items) (to_z-of_z w128 p.1 fit) (c.in_ok-next.ensures c.loop-pair.invariant.line c.loop-pair.invariant.is)) in
    stops c.args.facts.now c.args.pairs.now (drop (c.loop-pair.pair-index + 1) c.args.pairs.now) p c.loop-pair.invariant.line c.add_fact.new.atoms.items left step

pub loop-pair-preserved : goal.loop-pair-preserved
loop-pair-preserved c =
    let p : ℕ × ℤ = get_or c.args.pairs.now c.loop-pair.pair-index (0, pos 0) in
    let fit : FitsSigned w128 p.1 = search rules in
    let left : added c.args.facts.now (p ∷ drop (c.loop-pair.pair-index + 1) c.args.pairs.now) c.loop-pair.invariant.line ≡ combination c.args.facts.now c.args.pairs.now
    = ap (λ l. added c.args.facts.now l c.loop-pair.invariant.line) (ap (λ n. p ∷ drop n c.args.pairs.now) (add-one c.loop-pair.pair-index) ∙ sym (drop-cons c.args.pairs.now c.loop-pair.pair-index (0, pos 0) c.loop-pair-test.true)) ∙ c.loop-pair.invariant.left in
    let step : AddsTo c.args.facts.now p.0 p.1 c.loop-pair.invariant.line (Ok (Some c.in-Some.next)) c.add_fact.new.atoms.items =
    subst (λ o. AddsTo c.args.facts.now p.0 p.1 c.loop-pair.invariant.line (Ok o) c.add_fact.new.atoms.items) c.in-Some.is
    (subst (λ t. AddsTo c.args.facts.now p.0 t c.loop-pair.invariant.line (Ok c.in_ok-next.field-0) c.add_fact.new.atoms.items) (to_z-of_z w128 p.1 fit) (c.in_ok-next.ensures c.loop-pair.invariant.line c.loop-pair.invariant.is)) in
    goes-on c.args.facts.now c.args.pairs.now (drop (c.loop-pair.pair-index + 1) c.args.pairs.now) p c.loop-pair.invariant.line c.in-Some.next c.add_fact.new.atoms.items left step
