use Rattle.std.proofs.Common.{◌≡◌, ◌∙◌, ap, sym, subst, true, arith}
use Rattle.linear_rows.specs.Sums.{row_fits}
use Rattle.linear_certs.specs.Code.Building.{IsOpening}
use Rattle.linear_certs.proofs.OpeningLaws.{second-opening}
use Rattle.linear_certs.proofs.given.open_second.Goals as goal

pub open-requires-clause-opening : goal.open-requires-clause-opening
open-requires-clause-opening c =
    let made = c.in-Ok.ensures in
    let equal : c.args.row.now.equal ≡ true = grind (arith, c.if-not-row.false) in
    subst (IsOpening c.args.rows.now) (sym made.0) (second-opening c.args.rows.now c.args.number c.args.row.now c.requires.given equal (sym (ap (λ e. row_fits e.row) made.0) ∙ made.1))
