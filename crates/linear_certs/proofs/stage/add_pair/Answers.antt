use Rattle.std.proofs.Common.{sym, subst, [], ◌∷◌}
use Rattle.std.specs.List.{All}
use Rattle.std.proofs.lemmas.List.Elements.{All-cons, All-nil}
use Rattle.linear_certs.specs.Code.Building.{IsGood}
use Rattle.linear_certs.proofs.StageLaws.{kept_once-All, on-ok}
use Rattle.linear_certs.proofs.stage.add_pair.Goals as goal

pub returns-in-Ok-clause-good : goal.returns-in-Ok-clause-good
returns-in-Ok-clause-good c =
    let made = c.in-Ok.ensures.ok in
    on-ok c.keep.result (λ kept. subst (All (IsGood c.args.rows.now)) (sym kept)
    (kept_once-All (IsGood c.args.rows.now) c.args.next.now.items (c.in-Ok.entry ∷ []) c.requires.good (All-cons (IsGood c.args.rows.now) c.in-Ok.entry [] made.1 (All-nil (IsGood c.args.rows.now))))) c.keep.ensures.ok
