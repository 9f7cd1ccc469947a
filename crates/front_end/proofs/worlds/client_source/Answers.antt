use Rattle.std.proofs.Common.{[]}
use Rattle.std.proofs.lemmas.Result.{err_from_is_err_and}
use Rattle.c_lang.specs.declared.unit.Unit.TheVariants.{Client}
use Rattle.front_end.proofs.WorldLemmas.{program_refused}
use Rattle.front_end.proofs.worlds.client_source.Goals as goal

pub returns-in_err-program : goal.returns-in_err-program
returns-in_err-program c = λ client are.
    let p = err_from_is_err_and c.from_residual-in_err-program.result c.from_residual-in_err-program.ensures.1 in
    let here = rw c.deref.ensures.value at c.in_err-program.ensures in
    rw (p.1, p.2) (program_refused Client client.text [] c.args.tokens.now.tokens.items _ are.0 here.answer here.only)
