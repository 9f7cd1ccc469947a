use Rattle.std.proofs.Common.{◌≡◌, true, arith, subst, take_all}
use Rattle.std.specs.List.{All}
use Rattle.linear_rows.specs.Sums.{IsInForm, row_fits}
use Rattle.linear_certs.proofs.PointLaws.{hold-next}
use Rattle.linear_certs.proofs.answer.are_given.Goals as goal

pub loop-row-preserved : goal.loop-row-preserved
loop-row-preserved c =
    let form : c.is_in_form.result ≡ true = grind (arith, c.if-not-is_in_form.false) in
    let narrow : c.fits.result ≡ true = grind (arith, c.if-not-fits.false) in
    let inv = c.loop-row.invariant in (
      hold-next IsInForm c.args.rows.now c.loop-row.row-index c.row-item.result c.loop-row-test.true c.row-item.is inv.0 (c.is_in_form.ensures.yes form),
      hold-next (λ row. row_fits row ≡ true) c.args.rows.now c.loop-row.row-index c.row-item.result c.loop-row-test.true c.row-item.is inv.1 (subst (λ b. b ≡ true) c.fits.ensures narrow),
    )

pub returns-clause-in_form : goal.returns-clause-in_form
returns-clause-in_form c = λ _. subst (All IsInForm) (take_all c.loop-row.row-index c.args.rows.now c.loop-row-test.false) c.loop-row.invariant.0

pub returns-clause-narrow : goal.returns-clause-narrow
returns-clause-narrow c = λ _. subst (All (λ row. row_fits row ≡ true)) (take_all c.loop-row.row-index c.args.rows.now c.loop-row-test.false) c.loop-row.invariant.1
