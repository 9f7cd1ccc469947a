use Rattle.std.proofs.Common.{arith, sym, subst, ◌-◌, ◌≤◌}
use Rattle.std.proofs.lemmas.Result.{err_from_is_err_and}
use Rattle.c_expressions.specs.Code.ExpressionReading as spec
use Rattle.c_expressions.specs.Code.Seen.{seen}
use Rattle.c_expressions.proofs.ExpressionTurns.{IsLeft, begins, goes_on, ends, stops, fails_right, fails_high}
use Rattle.c_expressions.proofs.expressions.+expression.Goals as goal
use Rattle.c_expressions.proofs.expressions.+expression.Goals.{expression-in-Some+then-level-least, expression-in_default}

pub expression-loop-op-init : goal.expression-loop-op-init
expression-loop-op-init t c =
    let h = c.in_ok-left.ensures.height in
    let positive : 1 ≤ c.args.deep = omega arith in
    record {
      deep = positive;
      low = h.0;
      high = omega (arith, h.1);
      shorter = c.in_ok-left.ensures.rest;
      total = begins c.args.deep c.args.least c.args.tokens.now (seen c.in_ok-left.left) positive h.0 c.in_ok-left.ensures.read;
    }

pub expression-returns-then-left-deep-clause-read : goal.expression-returns-then-left-deep-clause-read
expression-returns-then-left-deep-clause-read t c =
    let i = c.loop-op.invariant in
    fails_high (spec.expr (c.args.deep - 1)) c.args.deep c.args.least (seen c.loop-op.left) c.in-Some.op c.in-Some.rest.now _ (sym c.in-Some.ensures.value) (omega arith) (omega arith) i.high i.total

pub expression-returns-in_err-right-clause-read : goal.expression-returns-in_err-right-clause-read
expression-returns-in_err-right-clause-read t c =
    let p = err_from_is_err_and c.from_residual-in_err-right.result c.from_residual-in_err-right.ensures.1 in
    let i = c.loop-op.invariant in
    rw (p.1, p.2) (fails_right (spec.expr (c.args.deep - 1)) c.args.deep c.args.least (seen c.loop-op.left) c.in-Some.op c.in-Some.rest.now _ c.in_err-right.field-0.0 (sym c.in-Some.ensures.value) (omega arith) (rw (← c.level-in-Some.ensures.value) c.in_err-right.ensures.read) (omega arith) i.total)

pub expression-loop-op-preserved : goal.expression-loop-op-preserved
expression-loop-op-preserved t c =
    let i = c.loop-op.invariant in
    let h = c.in_ok-left-2.ensures in
    let total = goes_on (spec.expr (c.args.deep - 1)) c.args.deep c.args.least (seen c.loop-op.left) (seen c.in_ok-right.right) c.in-Some.op c.in-Some.rest.now _ (sym c.in-Some.ensures.value) (omega arith) (rw (← c.level-in-Some.ensures.value) c.in_ok-right.ensures.read) (omega arith) i.total in
    record {
      deep = i.deep;
      low = omega (arith, h.height);
      high = omega (arith, h.height, c.in_ok-right.ensures.height);
      shorter = rw h.rest (omega (arith, c.in_ok-right.ensures.rest, c.in-Some.ensures.rest, i.shorter));
      total = subst (λ (y : spec.Found). IsLeft (spec.expr (c.args.deep - 1)) c.args.deep c.args.least y (spec.expr c.args.deep c.args.least c.args.tokens.now)) (sym h.read) total;
    }

pub expression-returns-clause-read : goal.expression-returns-clause-read
expression-returns-clause-read t c =
    let i = c.loop-op.invariant in
    elim c.match-next_operator.branch [
      | expression-in-Some+then-level-least w ↦ stops (spec.expr (c.args.deep - 1)) c.args.deep c.args.least (seen c.loop-op.left) w.in-Some.op w.in-Some.rest.now _ (sym w.in-Some.ensures.value) (omega arith) i.high i.total
      | expression-in_default w ↦ ends (spec.expr (c.args.deep - 1)) c.args.deep c.args.least (seen c.loop-op.left) _ (sym w.in_default.ensures.value) i.high i.total
    ]
