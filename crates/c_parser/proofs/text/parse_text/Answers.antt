use Rattle.std.proofs.Common.{◌≡◌}
use Rattle.std.proofs.lemmas.Result.{err_from_is_err_and}
use Rattle.c_parser.proofs.TextLaws.{tokens-refused, answered, only}
use Rattle.c_parser.proofs.text.parse_text.Goals as goal

pub returns-in_err-tokens-clause-answer : goal.returns-in_err-tokens-clause-answer
returns-in_err-tokens-clause-answer c =
    let p = err_from_is_err_and c.from_residual.result c.from_residual.ensures.1 in
    rw (p.1, p.2) (tokens-refused c.args.unit c.args.text.now _ c.in_err-tokens.ensures.answer)

pub returns-in_err-tokens-clause-only : goal.returns-in_err-tokens-clause-only
returns-in_err-tokens-clause-only c = λ program is.
    let p = err_from_is_err_and c.from_residual.result c.from_residual.ensures.1 in
    rw (p.1, p.2) (c.in_err-tokens.ensures.only is.parses.tokens is.within is.parses.lexed)

pub returns-clause-answer : goal.returns-clause-answer
returns-clause-answer c =
    let cut = c.in_ok-tokens.ensures.answer in
    answered c.args.unit c.args.text.now c.in_ok-tokens.tokens.items cut.0 cut.1 c.parse.result (rw (c.deref.ensures.value, c.height_limit.ensures) at c.parse.ensures.answer)

pub returns-clause-only : goal.returns-clause-only
returns-clause-only c = λ program is.
    let same : c.in_ok-tokens.tokens.items ≡ is.parses.tokens = c.in_ok-tokens.ensures.only is.parses.tokens is.within is.parses.lexed in
    only c.args.unit c.args.text.now c.in_ok-tokens.tokens.items c.parse.result (rw (c.deref.ensures.value, c.height_limit.ensures) at c.parse.ensures.only) program is same
