use Rattle.std.proofs.Common.{sym}
use Rattle.serde_json.specs.View.{view, items_view}
use Rattle.cert_form.proofs.Deciding.{on-ok}
use Rattle.cert_form.proofs.RuleLaws.{found-range, found-range_name}
use Rattle.cert_form.proofs.rules.read_range.Goals as goal

pub returns-in-Some : goal.returns-in-Some
returns-in-Some c =
    on-ok _ _ _ (λ o h. found-range_name (items_view c.args.args.now) (view c.in-Some.name.now) o (sym c.in-Some.ensures) h) c.read_range_name.ensures

pub returns-in-None : goal.returns-in-None
returns-in-None c = found-range (items_view c.args.args.now) c.read_range_read.result (sym c.in-None.ensures) c.read_range_read.ensures
