use Rattle.std.proofs.Common.{◌∷◌, subst, List, Ok, Err}
use Rattle.std.proofs.lemmas.Result.{err_from_is_err_and}
use Rattle.std.specs.Option.{option_copied}
use Rattle.c_lang.specs.declared.program.Program.{Program}
use Rattle.c_types.specs.Kept.{TypedProgram}
use Rattle.state_xform.specs.Kept.{IsChecked}
use Rattle.update_points.specs.Points.{all_points, IsListed}
use Rattle.front_end.specs.Conditions.{Condition}
use Rattle.front_end.specs.Worlds.{Texts, of_client, has_points, has_transformer, has_client}
use Rattle.front_end.specs.Code.Stages.{source_program}
use Rattle.front_end.proofs.WorldLemmas.{behind, points_refused, transformer_refused}
use Rattle.front_end.proofs.PartLemmas.{source_parses, client_refuses}
use Rattle.front_end.proofs.worlds.check_update.Goals as goal

abbrev last : Texts → List Condition
last ts = of_client (has_client ts) ts.client

pub returns-in_err-points-clause-refused : goal.returns-in_err-points-clause-refused
returns-in_err-points-clause-refused c = λ ts typed parses is.
    let p = err_from_is_err_and c.from_residual.result c.from_residual.ensures.1 in
    let listed = option_copied c.args.listed in
    let source = source_program c.args.client in
    rw (p.1, p.2)
    (points_refused listed ts (has_transformer ts ∷ last ts) c.args.versions.now.old.program source _ typed.versions.old (source_parses ts.client c.args.client is)
    (subst (λ (old : TypedProgram). IsListed (all_points old.program source) listed (Err c.in_err-points.field-0.0)) c.get-old.ensures c.in_err-points.ensures))

pub returns-in_err-xform-clause-refused : goal.returns-in_err-xform-clause-refused
returns-in_err-xform-clause-refused c = λ ts typed parses is.
    let p = err_from_is_err_and c.from_residual-in_err-xform.result c.from_residual-in_err-xform.ensures.1 in
    let listed = option_copied c.args.listed in
    let source = source_program c.args.client in
    let old = c.args.versions.now.old in
    let new = c.args.versions.now.new in
    let points = subst (λ (t : TypedProgram). IsListed (all_points t.program source) listed (Ok c.in_ok-points.points)) c.get-old.ensures c.in_ok-points.ensures in
    let refused =
    subst (λ (s : Program). IsChecked old.program new.program s (Err c.in_err-xform.field-0.0)) c.into_inner.ensures
    (subst (λ (t : TypedProgram). IsChecked old.program t.program c.into_inner.result (Err c.in_err-xform.field-0.0)) c.get-new.ensures
    (subst (λ (t : TypedProgram). IsChecked t.program c.get-new.result.now.program c.into_inner.result (Err c.in_err-xform.field-0.0)) c.get-old.ensures c.in_err-xform.ensures)) in
    rw (p.1, p.2)
    (behind (has_points listed ts) (has_transformer ts ∷ last ts) _
    (old.program, source, typed.versions.old, source_parses ts.client c.args.client is, points.0)
    (transformer_refused listed ts (last ts) old.program new.program c.args.xform _ typed.versions parses refused))

pub returns-in_err-client-clause-refused : goal.returns-in_err-client-clause-refused
returns-in_err-client-clause-refused c = λ ts typed parses is.
    let p = err_from_is_err_and c.from_residual-in_err-client.result c.from_residual-in_err-client.ensures.1 in
    let listed = option_copied c.args.listed in
    let source = source_program c.args.client in
    let old = c.args.versions.now.old in
    let new = c.args.versions.now.new in
    let points = subst (λ (t : TypedProgram). IsListed (all_points t.program source) listed (Ok c.in_ok-points.points)) c.get-old.ensures c.in_ok-points.ensures in
    let checked =
    subst (λ (s : Program). IsChecked old.program new.program s (Ok c.in_ok-xform.xform)) c.into_inner.ensures
    (subst (λ (t : TypedProgram). IsChecked old.program t.program c.into_inner.result (Ok c.in_ok-xform.xform)) c.get-new.ensures
    (subst (λ (t : TypedProgram). IsChecked t.program c.get-new.result.now.program c.into_inner.result (Ok c.in_ok-xform.xform)) c.get-old.ensures c.in_ok-xform.ensures)) in
    rw (p.1, p.2)
    (behind (has_points listed ts) (has_transformer ts ∷ last ts) _
    (old.program, source, typed.versions.old, source_parses ts.client c.args.client is, points.0)
    (behind (has_transformer ts) (last ts) _ (old.program, new.program, c.args.xform, typed.versions, parses, checked.0)
    (client_refuses listed ts old.program new.program ts.client c.args.client _ typed.versions is c.in_err-client.ensures)))
