use Rattle.std.proofs.Common.{rules, ◌≡◌, ◌∙◌, ◌+◌, pos, ap, sym, subst, arith, false, get_or, drop, FitsSigned}
use Rattle.std.specs.Int.{w128}
use Rattle.std.proofs.lemmas.Int.{to_z-of_z}
use Rattle.linear_rows.specs.Sums.{row_fits, plus_times}
use Rattle.linear_rows.specs.Combinations.{nothing, all_sums_fit}
use Rattle.linear_certs.proofs.SumsFitLaws.{sums-next, sums-wide}
use Rattle.linear_certs.proofs.closing.sums_fit.Goals as goal

pub returns-in-Err-Wide : goal.returns-in-Err-Wide
returns-in-Err-Wide c =
    let rows = c.args.rows.now in
    let ms = c.args.multipliers.now in
    let at = c.loop-at.at in
    let row = c.index-rows-at.result in
    let m = get_or ms at (pos 0) in
    let m_fits : FitsSigned w128 m = search rules in
    let inv = c.loop-at.invariant in
    let step = sums-next (all_sums_fit nothing rows ms) c.loop-at.sum rows ms at row c.loop-at-test.true c.requires.count c.requires.small inv.1 c.index-rows-at.is inv.2 in
    let wide = sums-wide (plus_times c.loop-at.sum m row) (drop (at + 1) rows) (drop (at + 1) ms)
    (subst (λ z. row_fits (plus_times c.loop-at.sum z row) ≡ false) (to_z-of_z w128 m m_fits) (rw c.in-Err-Wide.field-0-is at c.in-Err-Wide.ensures)) in
    sym (step ∙ wide)

pub loop-at-preserved : goal.loop-at-preserved
loop-at-preserved c =
    let rows = c.args.rows.now in
    let ms = c.args.multipliers.now in
    let at = c.loop-at.at in
    let row = c.index-rows-at.result in
    let m = get_or ms at (pos 0) in
    let m_fits : FitsSigned w128 m = search rules in
    let inv = c.loop-at.invariant in
    let step = sums-next (all_sums_fit nothing rows ms) c.loop-at.sum rows ms at row c.loop-at-test.true c.requires.count c.requires.small inv.1 c.index-rows-at.is inv.2 in
    let added = c.in-Ok.ensures in
    let next_is : c.in-Ok.next ≡ plus_times c.loop-at.sum m row = added.0 ∙ ap (λ z. plus_times c.loop-at.sum z row) (to_z-of_z w128 m m_fits) in
    (omega arith, ap row_fits added.0 ∙ added.1, step ∙ ap (λ s. all_sums_fit s (drop (at + 1) rows) (drop (at + 1) ms)) (sym next_is))
