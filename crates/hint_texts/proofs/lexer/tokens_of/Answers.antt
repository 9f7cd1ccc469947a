use Rattle.std.proofs.Common.{◌++◌, ◌≤◌, List, Some, length, sym, ap, ◌∙◌, append-nil, arith}
use Rattle.std.proofs.lemmas.Bool.{eqb-true}
use Rattle.std.proofs.lemmas.Bool.Decides.{nat_tests}
use Rattle.std.proofs.lemmas.Result.{err_from_is_err_and}
use Rattle.hint_texts.specs.declared.token.Token.{Token}
use Rattle.hint_texts.specs.Tokens.{placed}
use Rattle.hint_texts.specs.Code.Lexing.{piece_at, tokens_in}
use Rattle.hint_texts.proofs.Turns.{goes_on, ends, fails}
use Rattle.hint_texts.proofs.LineLaws.{line_small, placed_more}
use Rattle.hint_texts.proofs.lexer.tokens_of.Goals as goal

pub returns-in_err-found : goal.returns-in_err-found
returns-in_err-found c =
    let p = err_from_is_err_and c.from_residual.result c.from_residual.ensures.1 in
    let some : 1 ≤ length c.loop-rest.rest.now = grind (arith, nat_tests, c.loop-rest-test.ensures) in
    rw (p.1, p.2) (fails piece_at (λ pieces. Some (c.loop-rest.tokens.items ++ placed c.loop-rest.line pieces)) c.loop-rest.rest.now (tokens_in c.args.text.now) c.in_err-found.field-0.0 some c.in_err-found.ensures.value c.loop-rest.invariant.left)

pub loop-rest-preserved : goal.loop-rest-preserved
loop-rest-preserved c =
    let front = c.loop-rest.tokens.items in
    let line = c.loop-rest.line in
    let tokens = c.in_ok-line.ensures.tokens in
    let after = c.in_ok-line.ensures.line in
    record {
      left = goes_on piece_at (λ pieces. Some (front ++ placed line pieces)) _ c.loop-rest.rest.now c.in_ok-found.after.now c.in_ok-found.found (tokens_in c.args.text.now) c.in_ok-found.ensures.value c.in_ok-found.ensures.shorter
          (λ pieces. placed_more front _ line _ c.in_ok-found.found pieces tokens after) c.loop-rest.invariant.left;
      lines = rw after (omega (arith, line_small line c.in_ok-found.found, c.in_ok-found.ensures.shorter, c.loop-rest.invariant.lines));
    }

pub returns : goal.returns
returns c =
    ends piece_at (λ pieces. Some (c.loop-rest.tokens.items ++ placed c.loop-rest.line pieces)) c.loop-rest.rest.now (tokens_in c.args.text.now) (eqb-true _ _ (sym c.loop-rest-test.ensures)) c.loop-rest.invariant.left
    ∙ ap (λ (x : List Token). Some x) (append-nil c.loop-rest.tokens.items)
