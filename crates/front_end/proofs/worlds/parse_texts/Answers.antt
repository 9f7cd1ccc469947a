use Rattle.std.proofs.Common.{◌∷◌, List}
use Rattle.std.proofs.lemmas.Result.{err_from_is_err_and}
use Rattle.c_lang.specs.declared.unit.Unit.TheVariants.{Old, New, Xform, Client}
use Rattle.front_end.specs.Conditions.{Condition}
use Rattle.front_end.specs.Worlds.{Texts, of_client, is_program}
use Rattle.front_end.proofs.WorldLemmas.{behind, program_refused}
use Rattle.front_end.proofs.worlds.parse_texts.Goals as goal

-- the conditions behind those of the versions, and behind that of the old one
abbrev last : Texts → List Condition
last ts = of_client (λ c. is_program Client c.text) ts.client

abbrev later : Texts → List Condition
later ts = is_program Xform ts.xform ∷ last ts

pub returns-in_err-old : goal.returns-in_err-old
returns-in_err-old c = λ ts cut.
    let p = err_from_is_err_and c.from_residual.result c.from_residual.ensures.1 in
    let here = rw c.deref.ensures.value at c.in_err-old.ensures in
    rw (p.1, p.2) (program_refused Old ts.old (is_program New ts.new ∷ later ts) c.args.tokens.now.old.items _ cut.old here.answer here.only)

pub returns-in_err-new : goal.returns-in_err-new
returns-in_err-new c = λ ts cut.
    let p = err_from_is_err_and c.from_residual-in_err-new.result c.from_residual-in_err-new.ensures.1 in
    let old = (rw c.deref.ensures.value at c.in_ok-old.ensures).answer in
    let here = rw c.deref-2.ensures.value at c.in_err-new.ensures in
    rw (p.1, p.2)
    (behind (is_program Old ts.old) (is_program New ts.new ∷ later ts) _ (c.in_ok-old.old, record { tokens = _; lexed = cut.old; parsed = old })
    (program_refused New ts.new (later ts) c.args.tokens.now.new.items _ cut.new here.answer here.only))

pub returns-in_err-xform : goal.returns-in_err-xform
returns-in_err-xform c = λ ts cut.
    let p = err_from_is_err_and c.from_residual-in_err-xform.result c.from_residual-in_err-xform.ensures.1 in
    let old = (rw c.deref.ensures.value at c.in_ok-old.ensures).answer in
    let new = (rw c.deref-2.ensures.value at c.in_ok-new.ensures).answer in
    let here = rw c.deref-3.ensures.value at c.in_err-xform.ensures in
    rw (p.1, p.2)
    (behind (is_program Old ts.old) (is_program New ts.new ∷ later ts) _ (c.in_ok-old.old, record { tokens = _; lexed = cut.old; parsed = old })
    (behind (is_program New ts.new) (later ts) _ (c.in_ok-new.new, record { tokens = _; lexed = cut.new; parsed = new })
    (program_refused Xform ts.xform (last ts) c.args.tokens.now.xform.items _ cut.xform here.answer here.only)))

pub returns-in_err-client : goal.returns-in_err-client
returns-in_err-client c = λ ts cut.
    let p = err_from_is_err_and c.from_residual-in_err-client.result c.from_residual-in_err-client.ensures.1 in
    let old = (rw c.deref.ensures.value at c.in_ok-old.ensures).answer in
    let new = (rw c.deref-2.ensures.value at c.in_ok-new.ensures).answer in
    let xform = (rw c.deref-3.ensures.value at c.in_ok-xform.ensures).answer in
    rw (p.1, p.2)
    (behind (is_program Old ts.old) (is_program New ts.new ∷ later ts) _ (c.in_ok-old.old, record { tokens = _; lexed = cut.old; parsed = old })
    (behind (is_program New ts.new) (later ts) _ (c.in_ok-new.new, record { tokens = _; lexed = cut.new; parsed = new })
    (behind (is_program Xform ts.xform) (last ts) _ (c.in_ok-xform.xform, record { tokens = _; lexed = cut.xform; parsed = xform })
    (c.in_err-client.ensures ts.client cut.client))))
