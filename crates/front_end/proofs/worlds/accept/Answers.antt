use Rattle.std.proofs.lemmas.Result.{err_from_is_err_and}
use Rattle.std.specs.Option.{option_copied}
use Rattle.c_lang.specs.declared.unit.Unit.TheVariants.{Old, New, Xform}
use Rattle.front_end.specs.Seen.{seen_texts}
use Rattle.front_end.proofs.WorldLemmas.{written, refused_by_tokens, refused_by_grammar, refused_by_types, accepted}
use Rattle.front_end.proofs.PartLemmas.{source_written}
use Rattle.front_end.proofs.worlds.accept.Goals as goal

pub returns-in_err-tokens : goal.returns-in_err-tokens
returns-in_err-tokens c =
    let p = err_from_is_err_and c.from_residual.result c.from_residual.ensures.1 in
    let ts = seen_texts c.args.texts.now in
    rw (p.1, p.2) (refused_by_tokens (option_copied c.args.listed) ts c.in_default.ensures _ c.in_err-tokens.ensures)

pub returns-in_err-programs : goal.returns-in_err-programs
returns-in_err-programs c =
    let p = err_from_is_err_and c.from_residual-in_err-programs.result c.from_residual-in_err-programs.ensures.1 in
    let ts = seen_texts c.args.texts.now in
    rw (p.1, p.2)
    (refused_by_grammar (option_copied c.args.listed) ts c.in_default.ensures c.in_ok-tokens.tokens c.in_ok-tokens.ensures _
    (c.in_err-programs.ensures ts c.in_ok-tokens.ensures))

pub check_versions-requires-clause-old : goal.check_versions-requires-clause-old
check_versions-requires-clause-old c =
    let ts = seen_texts c.args.texts.now in
    written Old c.args.texts.now.old.now _ c.in_default.ensures.0 (c.in_ok-programs.ensures ts c.in_ok-tokens.ensures).versions.old

pub check_versions-requires-clause-new : goal.check_versions-requires-clause-new
check_versions-requires-clause-new c =
    let ts = seen_texts c.args.texts.now in
    written New c.args.texts.now.new.now _ c.in_default.ensures.1.0 (c.in_ok-programs.ensures ts c.in_ok-tokens.ensures).versions.new

pub returns-in_err-versions : goal.returns-in_err-versions
returns-in_err-versions c =
    let p = err_from_is_err_and c.from_residual-in_err-versions.result c.from_residual-in_err-versions.ensures.1 in
    let ts = seen_texts c.args.texts.now in
    let are = c.in_ok-programs.ensures ts c.in_ok-tokens.ensures in
    rw (p.1, p.2)
    (refused_by_types (option_copied c.args.listed) ts c.in_default.ensures c.in_ok-tokens.tokens c.in_ok-tokens.ensures c.in_ok-programs.programs are _
    (c.in_err-versions.ensures ts c.in_default.ensures are.versions))

pub make_world-requires-clause-old_kept : goal.make_world-requires-clause-old_kept
make_world-requires-clause-old_kept c =
    let ts = seen_texts c.args.texts.now in
    (c.in_ok-versions.ensures ts c.in_default.ensures (c.in_ok-programs.ensures ts c.in_ok-tokens.ensures).versions).old_kept

pub make_world-requires-clause-old : goal.make_world-requires-clause-old
make_world-requires-clause-old c =
    let ts = seen_texts c.args.texts.now in
    (c.in_ok-versions.ensures ts c.in_default.ensures (c.in_ok-programs.ensures ts c.in_ok-tokens.ensures).versions).old_unit

pub make_world-requires-clause-new_kept : goal.make_world-requires-clause-new_kept
make_world-requires-clause-new_kept c =
    let ts = seen_texts c.args.texts.now in
    (c.in_ok-versions.ensures ts c.in_default.ensures (c.in_ok-programs.ensures ts c.in_ok-tokens.ensures).versions).new_kept

pub make_world-requires-clause-new : goal.make_world-requires-clause-new
make_world-requires-clause-new c =
    let ts = seen_texts c.args.texts.now in
    (c.in_ok-versions.ensures ts c.in_default.ensures (c.in_ok-programs.ensures ts c.in_ok-tokens.ensures).versions).new_unit

pub make_world-requires-clause-written : goal.make_world-requires-clause-written
make_world-requires-clause-written c =
    let ts = seen_texts c.args.texts.now in
    written Xform c.args.texts.now.xform.now _ c.in_default.ensures.1.1.0 (c.in_ok-programs.ensures ts c.in_ok-tokens.ensures).xform

pub make_world-requires-clause-client : goal.make_world-requires-clause-client
make_world-requires-clause-client c =
    let ts = seen_texts c.args.texts.now in
    source_written ts.client _ c.in_default.ensures.1.1.1 (c.in_ok-programs.ensures ts c.in_ok-tokens.ensures).client

pub returns : goal.returns
returns c =
    let ts = seen_texts c.args.texts.now in
    let are = c.in_ok-programs.ensures ts c.in_ok-tokens.ensures in
    let typed = c.in_ok-versions.ensures ts c.in_default.ensures are.versions in
    accepted (option_copied c.args.listed) ts c.in_default.ensures c.in_ok-tokens.tokens c.in_ok-tokens.ensures c.in_ok-programs.programs are
    c.in_ok-versions.versions typed c.make_world.result (c.make_world.ensures ts typed are.xform are.client)
