use Rattle.std.proofs.Common.{sym, subst}
use Rattle.linear_certs.specs.Code.Building.{IsOpening}
use Rattle.linear_certs.proofs.OpeningLaws.{first-opening}
use Rattle.linear_certs.proofs.given.open_first.Goals as goal

pub open-requires-clause-opening : goal.open-requires-clause-opening
open-requires-clause-opening c =
    let is = c.in-Ok.ensures in
    subst (IsOpening c.args.rows.now) (sym is) (first-opening c.args.rows.now c.args.number c.args.row.now c.requires.given)
