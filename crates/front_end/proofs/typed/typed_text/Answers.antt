use Rattle.std.proofs.lemmas.Result.{err_from_is_err_and}
use Rattle.front_end.proofs.TypedTextLemmas.{text-refused, checked, checked-only}
use Rattle.front_end.proofs.typed.typed_text.Goals as goal

pub returns-in_err-program-clause-answer : goal.returns-in_err-program-clause-answer
returns-in_err-program-clause-answer c =
    let p = err_from_is_err_and c.from_residual.result c.from_residual.ensures.1 in
    rw (p.1, p.2) (text-refused c.args.unit c.args.text.now _ c.in_err-program.ensures.answer)

pub returns-in_err-program-clause-only : goal.returns-in_err-program-clause-only
returns-in_err-program-clause-only c = λ program is.
    let p = err_from_is_err_and c.from_residual.result c.from_residual.ensures.1 in
    rw (p.1, p.2) (c.in_err-program.ensures.only is.source is.is_program)

pub returns-clause-answer : goal.returns-clause-answer
returns-clause-answer c = checked c.args.unit c.args.text.now c.in_ok-program.program c.check.result c.in_ok-program.ensures.answer c.check.ensures

pub returns-clause-only : goal.returns-clause-only
returns-clause-only c = λ program is.
    checked-only c.args.unit c.args.text.now c.in_ok-program.program c.check.result c.check.ensures program is (c.in_ok-program.ensures.only is.source is.is_program)
