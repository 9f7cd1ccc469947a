use Rattle.std.proofs.Common.{◌++◌, ◌≤◌, List, Some, length, sym, ap, ◌∙◌, append-nil, arith}
use Rattle.std.proofs.lemmas.Bool.{eqb-true}
use Rattle.std.proofs.lemmas.Bool.Decides.{nat_tests}
use Rattle.std.proofs.lemmas.Result.{err_from_is_err_and}
use Rattle.c_lang.specs.Names.{Bytes}
use Rattle.hint_texts.specs.Code.Reading.{next_at, more_names}
use Rattle.hint_texts.proofs.Turns.{goes_on, ends, fails_stop, pushed_copy}
use Rattle.hint_texts.proofs.statement.more_names.Goals as goal

pub returns-in_err-name : goal.returns-in_err-name
returns-in_err-name c =
    let p = err_from_is_err_and c.from_residual-in_err-name.result c.from_residual-in_err-name.ensures.1 in
    let some : 1 ≤ length c.loop-rest.rest.now = grind (arith, nat_tests, c.loop-rest-test.ensures) in
    rw (p.1, p.2) (fails_stop next_at (λ names. Some (c.loop-rest.names ++ names)) c.loop-rest.rest.now (more_names c.args.first.now c.args.tokens.now) c.in_err-name.field-0.0 some c.in_err-name.ensures.value c.loop-rest.invariant.left)

pub loop-rest-preserved : goal.loop-rest-preserved
loop-rest-preserved c =
    let front = c.loop-rest.names in
    let same = c.in_ok-copy-2.ensures in
    let items = c.in_ok-push-2.ensures.ok in
    record {
      left = goes_on next_at (λ names. Some (front ++ names)) _ c.loop-rest.rest.now c.in_ok-name.after.now c.in_ok-name.name.now (more_names c.args.first.now c.args.tokens.now) c.in_ok-name.ensures.value c.in_ok-name.ensures.shorter
          (λ names. pushed_copy front _ c.in_ok-name.name.now _ names same items) c.loop-rest.invariant.left;
    }

pub returns : goal.returns
returns c =
    ends next_at (λ names. Some (c.loop-rest.names ++ names)) c.loop-rest.rest.now (more_names c.args.first.now c.args.tokens.now) (eqb-true _ _ (sym c.loop-rest-test.ensures)) c.loop-rest.invariant.left
    ∙ ap (λ (x : List Bytes). Some x) (append-nil c.loop-rest.names)
