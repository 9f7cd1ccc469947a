use Rattle.std.proofs.Common.{◌≤◌, ◌∙◌, sym, subst, length, arith, length-drop}
use Rattle.std.proofs.lemmas.List.{take_rest, length-take}
use Rattle.std.proofs.lemmas.Bool.{eqb-true}
use Rattle.std.proofs.lemmas.Result.{err_from_is_err_and}
use Rattle.c_lexer.specs.Code.Reading as spec
use Rattle.c_lexer.proofs.Turns.{goes_on, fails, ends}
use Rattle.c_lexer.proofs.lexer.cut.Goals as goal

pub returns-in_err-keep : goal.returns-in_err-keep
returns-in_err-keep c =
    let p = err_from_is_err_and c.from_residual-in_err-keep.result c.from_residual-in_err-keep.ensures.1 in
    let z = c.loop-rest.rest.now in
    let some : 1 ≤ length z = omega (arith, c.in_ok-piece.ensures.within) in
    let f = fails c.args.unit c.loop-rest.place z c.loop-rest.tokens.items (c.in_ok-piece.piece, c.in_ok-piece.len) c.in_err-keep.field-0.0 some c.in_ok-piece.ensures.value c.in_err-keep.ensures.err in
    rw (p.1, p.2) (subst (spec.Fails c.in_err-keep.field-0.0) c.loop-rest.invariant.so_far f)

pub loop-rest-preserved : goal.loop-rest-preserved
loop-rest-preserved c =
    let z = c.loop-rest.rest.now in
    let w = c.in_ok-piece.ensures.within in
    let some : 1 ≤ length z = omega (arith, w) in
    let step = goes_on c.args.unit c.loop-rest.place z c.loop-rest.tokens.items c.keep.new.tokens.items (c.in_ok-piece.piece, c.in_ok-piece.len) some w.0 c.in_ok-piece.ensures.value c.in_ok-keep.ensures.ok in
    record {
      so_far = rw (take_rest z c.in_ok-piece.len, c.after_bytes-place.ensures.value, c.turned-next.ensures.value) (step ∙ c.loop-rest.invariant.so_far);
      offset = rw (take_rest z c.in_ok-piece.len) (omega (arith, length-drop c.in_ok-piece.len z, length-take c.in_ok-piece.len z, c.after_bytes-place.ensures.offset, c.turned-next.ensures.offset, c.loop-rest.invariant.offset, w));
      line = c.after_bytes-place.ensures.line;
    }

pub returns : goal.returns
returns c = sym c.loop-rest.invariant.so_far ∙ ends c.args.unit c.loop-rest.place c.loop-rest.rest.now c.loop-rest.tokens.items (eqb-true _ _ (sym c.loop-rest-test.ensures))
