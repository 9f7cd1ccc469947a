use Rattle.std.proofs.Common.{◌≡◌, ◌∙◌, sym, subst}
use Rattle.std.proofs.lemmas.Result.{err_from_is_err_and}
use Rattle.std.specs.Option.{option_copied}
use Rattle.update_semantics.specs.Worlds.{World, world_of}
use Rattle.front_end.specs.Worlds.{IsWorldOf}
use Rattle.front_end.proofs.PartLemmas.{parts_are_world, parts_of_texts}
use Rattle.front_end.proofs.worlds.make_world.Goals as goal

pub returns-in_err-points : goal.returns-in_err-points
returns-in_err-points c = λ ts typed parses is.
    let p = err_from_is_err_and c.from_residual.result c.from_residual.ensures.1 in
    rw (p.1, p.2) (c.in_err-points.ensures.refused ts typed parses is)

pub new-world-requires : goal.new-world-requires
new-world-requires c =
    rw (c.into_inner.ensures, c.into_inner-2.ensures, c.into_inner-3.ensures, c.into_inner-4.ensures)
    (parts_are_world (option_copied c.args.listed) c.args.versions.old c.args.versions.new c.args.xform c.args.client c.in_ok-points.field-0 c.in_ok-points.ensures.parts
    c.requires.old c.requires.old_kept c.requires.new c.requires.new_kept c.requires.written c.requires.client)

pub returns : goal.returns
returns c = λ ts typed parses is.
    let listed = option_copied c.args.listed in
    let parts = c.in_ok-points.field-0 in
    let same : c.in_ok-new.field-0 ≡ record { old_prog = c.args.versions.old; new_prog = c.args.versions.new; xform = parts.xform; client = parts.client; links = parts.links; points = parts.points } =
    c.in_ok-new.ensures ∙ c.new-world.ensures
    ∙ (λ i. record { old_prog = c.into_inner.ensures i; new_prog = c.into_inner-2.ensures i; xform = parts.xform; client = parts.client; links = c.into_inner-3.ensures i; points = c.into_inner-4.ensures i }) in
    subst (λ (w : World). IsWorldOf listed ts (world_of w)) (sym same)
    (parts_of_texts listed c.args.versions.old c.args.versions.new c.args.xform c.args.client parts c.in_ok-points.ensures.parts ts typed.versions parses is)
