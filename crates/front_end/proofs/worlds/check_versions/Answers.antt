use Rattle.std.proofs.Common.{[], ◌∷◌}
use Rattle.std.proofs.lemmas.Result.{err_from_is_err_and}
use Rattle.c_lang.specs.declared.unit.Unit.TheVariants.{Old, New}
use Rattle.front_end.specs.Worlds.{is_typed}
use Rattle.front_end.proofs.WorldLemmas.{behind, types_refused, typed_text}
use Rattle.front_end.proofs.worlds.check_versions.Goals as goal

pub returns-in_err-old : goal.returns-in_err-old
returns-in_err-old c = λ ts small are.
    let p = err_from_is_err_and c.from_residual.result c.from_residual.ensures.1 in
    rw (p.1, p.2) (types_refused Old ts.old (is_typed New ts.new ∷ []) c.args.old _ are.old c.in_err-old.ensures.checked)

pub returns-in_err-new : goal.returns-in_err-new
returns-in_err-new c = λ ts small are.
    let p = err_from_is_err_and c.from_residual-in_err-new.result c.from_residual-in_err-new.ensures.1 in
    rw (p.1, p.2)
    (behind (is_typed Old ts.old) (is_typed New ts.new ∷ []) _ (c.in_ok-old.old.program, typed_text Old ts.old c.args.old c.in_ok-old.old small.0 are.old c.in_ok-old.ensures.checked)
    (types_refused New ts.new [] c.args.new _ are.new c.in_err-new.ensures.checked))
