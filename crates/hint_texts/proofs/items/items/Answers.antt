use Rattle.std.proofs.Common.{◌++◌, ◌≤◌, length, sym, arith}
use Rattle.std.proofs.lemmas.Bool.{eqb-true}
use Rattle.std.proofs.lemmas.Bool.Decides.{nat_tests}
use Rattle.std.proofs.lemmas.Result.{err_from_is_err_and}
use Rattle.name_tables.specs.Declarations.{function_number}
use Rattle.hint_texts.specs.Code.Reading.{statement_at, statements_in, grouped, items_of}
use Rattle.hint_texts.proofs.Turns.{goes_on, ends, fails}
use Rattle.hint_texts.proofs.ItemLaws.{grouped_more, cannot_stand, all_read}
use Rattle.hint_texts.proofs.items.items.Goals as goal

pub returns-in_err-statement : goal.returns-in_err-statement
returns-in_err-statement c =
    let number = function_number c.args.names.now in
    let p = err_from_is_err_and c.from_residual.result c.from_residual.ensures.1 in
    let some : 1 ≤ length c.loop-rest.rest.now = grind (arith, nat_tests, c.loop-rest-test.ensures) in
    rw (p.1, p.2) (fails (statement_at number) (λ ss. grouped (statements_in c.loop-rest.items ++ ss)) c.loop-rest.rest.now (items_of number c.args.tokens.now) c.in_err-statement.field-0.0 some c.in_err-statement.ensures.value c.loop-rest.invariant.left)

pub returns-in_err-add : goal.returns-in_err-add
returns-in_err-add c =
    let number = function_number c.args.names.now in
    let p = err_from_is_err_and c.from_residual-in_err-add.result c.from_residual-in_err-add.ensures.1 in
    let some : 1 ≤ length c.loop-rest.rest.now = grind (arith, nat_tests, c.loop-rest-test.ensures) in
    rw (p.1, p.2) (cannot_stand number c.loop-rest.items c.in_ok-statement.statement c.in_err-add.field-0.0 c.loop-rest.rest.now c.in_ok-statement.after.now (items_of number c.args.tokens.now) some c.in_ok-statement.ensures.value c.in_err-add.ensures.alone c.loop-rest.invariant.left)

pub loop-rest-preserved : goal.loop-rest-preserved
loop-rest-preserved c =
    let number = function_number c.args.names.now in
    let items = c.loop-rest.items in
    let added = c.in_ok-add.ensures.added in
    record {
      left = goes_on (statement_at number) (λ ss. grouped (statements_in items ++ ss)) _ c.loop-rest.rest.now c.in_ok-statement.after.now c.in_ok-statement.statement (items_of number c.args.tokens.now) c.in_ok-statement.ensures.value c.in_ok-statement.ensures.shorter
          (λ ss. grouped_more items _ c.in_ok-statement.statement ss added) c.loop-rest.invariant.left;
    }

pub returns : goal.returns
returns c =
    let number = function_number c.args.names.now in
    all_read c.loop-rest.items (items_of number c.args.tokens.now)
    (ends (statement_at number) (λ ss. grouped (statements_in c.loop-rest.items ++ ss)) c.loop-rest.rest.now (items_of number c.args.tokens.now) (eqb-true _ _ (sym c.loop-rest-test.ensures)) c.loop-rest.invariant.left)
