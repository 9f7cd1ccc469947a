use Rattle.std.proofs.Common.{◌++◌, ◌≤◌, List, Some, length, sym, ap, ◌∙◌, append-nil, arith}
use Rattle.std.proofs.lemmas.Bool.{eqb-true}
use Rattle.std.proofs.lemmas.Bool.Decides.{nat_tests}
use Rattle.std.proofs.lemmas.Result.{err_from_is_err_and}
use Rattle.name_tables.specs.Declarations.{function_number}
use Rattle.formula_texts.specs.declared.token.Token.{Token}
use Rattle.hint_texts.specs.Code.Reading.{part_at, parts_of}
use Rattle.hint_texts.proofs.Turns.{goes_on, ends, fails_stop, pushed}
use Rattle.hint_texts.proofs.formula.parts.Goals as goal

pub returns-in_err-part : goal.returns-in_err-part
returns-in_err-part c =
    let number = function_number c.args.names.now in
    let p = err_from_is_err_and c.from_residual.result c.from_residual.ensures.1 in
    let some : 1 ≤ length c.loop-rest.rest.now = grind (arith, nat_tests, c.loop-rest-test.ensures) in
    rw (p.1, p.2) (fails_stop (part_at number) (λ parts. Some (c.loop-rest.parts.items ++ parts)) c.loop-rest.rest.now (parts_of number c.args.tokens.now) c.in_err-part.field-0.0 some c.in_err-part.ensures.value c.loop-rest.invariant.left)

pub loop-rest-preserved : goal.loop-rest-preserved
loop-rest-preserved c =
    let number = function_number c.args.names.now in
    let front = c.loop-rest.parts.items in
    let items = c.in_ok-push.ensures.items in
    record {
      left = goes_on (part_at number) (λ parts. Some (front ++ parts)) _ c.loop-rest.rest.now c.in_ok-part.after.now c.in_ok-part.part (parts_of number c.args.tokens.now) c.in_ok-part.ensures.value c.in_ok-part.ensures.shorter
          (λ parts. pushed front _ c.in_ok-part.part parts items) c.loop-rest.invariant.left;
    }

pub returns : goal.returns
returns c =
    let number = function_number c.args.names.now in
    ends (part_at number) (λ parts. Some (c.loop-rest.parts.items ++ parts)) c.loop-rest.rest.now (parts_of number c.args.tokens.now) (eqb-true _ _ (sym c.loop-rest-test.ensures)) c.loop-rest.invariant.left
    ∙ ap (λ (x : List Token). Some x) (append-nil c.loop-rest.parts.items)
