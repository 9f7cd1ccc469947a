use Rattle.serde_json.specs.View.{items_view}
use Rattle.cert_form.specs.Code.Reading.{Found, IsOf}
use Rattle.cert_form.specs.declared.word.Word.TheVariants.{Round}
use Rattle.cert_form.proofs.Deciding.{on-ok}
use Rattle.cert_form.proofs.RuleLaws.{found-round}
use Rattle.cert_form.proofs.rules.read_by.Goals as goal

pub returns-in-Round : goal.returns-in-Round
returns-in-Round c =
    let all = on-ok c.read_round.result _ (Found (IsOf Round (items_view c.args.args.now))) (λ o e. found-round _ o e) c.read_round.ensures in
    rw c.in-Round.is all
