use Rattle.std.proofs.Common.{◌≤◌, length, sym, arith}
use Rattle.std.proofs.lemmas.List.{take_rest}
use Rattle.std.proofs.Common.{length-drop}
use Rattle.std.proofs.lemmas.Bool.{eqb-true}
use Rattle.std.proofs.lemmas.Bool.Decides.{nat_tests}
use Rattle.std.proofs.lemmas.Result.{err_from_is_err_and}
use Rattle.formula_texts.specs.Code.Lexing as spec
use Rattle.formula_texts.proofs.LexTurns.{goes_on, ends, fails}
use Rattle.formula_texts.proofs.lexer.tokens_of.Goals as goal

pub returns-in_err-found : goal.returns-in_err-found
returns-in_err-found c =
    let p = err_from_is_err_and c.from_residual.result c.from_residual.ensures.1 in
    let some : 1 ≤ length c.loop-rest.rest.now = grind (arith, nat_tests, c.loop-rest-test.ensures) in
    rw (p.1, p.2) (fails c.loop-rest.tokens.items c.loop-rest.rest.now (spec.tokens_in c.args.text.now) c.in_err-found.field-0.0 some c.in_err-found.ensures.value c.loop-rest.invariant.left)

pub loop-rest-preserved : goal.loop-rest-preserved
loop-rest-preserved c =
    let z = c.loop-rest.rest.now in
    let w = c.in_ok-found.ensures.within in
    record {
      left = rw (take_rest z c.in_ok-found.size) (goes_on c.loop-rest.tokens.items c.keep.new.tokens.items z (c.in_ok-found.found, c.in_ok-found.size) (spec.tokens_in c.args.text.now) c.in_ok-found.ensures.value w.0 w.1 c.in_ok-keep.ensures c.loop-rest.invariant.left);
      shorter = rw (take_rest z c.in_ok-found.size) (omega (arith, length-drop c.in_ok-found.size z, c.loop-rest.invariant.shorter));
    }

pub returns : goal.returns
returns c = ends c.loop-rest.tokens.items c.loop-rest.rest.now (spec.tokens_in c.args.text.now) (eqb-true _ _ (sym c.loop-rest-test.ensures)) c.loop-rest.invariant.left
