use Rattle.std.proofs.Common.{[], sym, subst}
use Rattle.std.specs.Prelude.{filter}
use Rattle.std.specs.List.{All}
use Rattle.std.proofs.lemmas.List.Elements.{All-nil, All-filter}
use Rattle.linear_certs.specs.Stages.{lacks}
use Rattle.linear_certs.specs.Code.Building.{IsGood}
use Rattle.linear_certs.proofs.StageLaws.{kept_once-All}
use Rattle.linear_certs.proofs.stage.next_stage.Goals as goal

pub add_uppers-requires-clause-good : goal.add_uppers-requires-clause-good
add_uppers-requires-clause-good c = subst (All (IsGood c.args.rows.now)) (sym c.in-Ok.ensures)
    (kept_once-All (IsGood c.args.rows.now) [] (filter (lacks c.args.atom) c.args.stage.now) (All-nil (IsGood c.args.rows.now)) (All-filter (lacks c.args.atom) (IsGood c.args.rows.now) c.args.stage.now c.requires.built.good))
