use Rattle.std.proofs.Common.{sym, arith, ◌≡◌, ◌≤◌}
use Rattle.std.proofs.lemmas.Result.{err_from_is_err_and}
use Rattle.c_statements.specs.Code.StatementReading as spec
use Rattle.c_statements.specs.Code.Seen.{seen_read}
use Rattle.c_statements.proofs.StatementTurns.{goes_on, ends, fails, stmt_below, stmt_zero}
use Rattle.c_statements.proofs.statements.+stmt.Goals as goal

pub items-returns-in-Some-clause-read : goal.items-returns-in-Some-clause-read
items-returns-in-Some-clause-read t c = ends (spec.stmt c.args.unit c.args.below) c.args.below c.args.in_loop (spec.made c.loop-behind.stmts c.loop-behind.height c.loop-behind.scope c.loop-behind.rest.now) c.in-Some.behind.now _ (sym c.in-Some.ensures.value) c.loop-behind.invariant.total

pub items-returns-in_err-next-clause-read : goal.items-returns-in_err-next-clause-read
items-returns-in_err-next-clause-read t c =
    let p = err_from_is_err_and c.from_residual.result c.from_residual.ensures.1 in
    rw (p.1, p.2) (fails (spec.stmt c.args.unit c.args.below) c.args.below c.args.in_loop (spec.made c.loop-behind.stmts c.loop-behind.height c.loop-behind.scope c.loop-behind.rest.now) _ c.in_err-next.field-0.0 (sym c.in_default.ensures.value) c.in_err-next.ensures.read c.loop-behind.invariant.total)

pub items-loop-behind-preserved : goal.items-loop-behind-preserved
items-loop-behind-preserved t c =
    let i = c.loop-behind.invariant in
    let x = c.in_ok-next.ensures in
    record {
      total = rw (c.in_ok-append.ensures, c.max-height.ensures) (goes_on (spec.stmt c.args.unit c.args.below) c.args.below c.args.in_loop (spec.made c.loop-behind.stmts c.loop-behind.height c.loop-behind.scope c.loop-behind.rest.now) (seen_read c.stmt.new.scope c.in_ok-next.next) _ (sym c.in_default.ensures.value) x.read x.some i.total);
      high = omega (arith, c.max-height.ensures, x.within.high, i.high);
      shorter = omega (arith, x.some, i.shorter);
      counted = omega (arith, x.within.counted, i.counted);
    }

pub stmt-returns-clause-read : goal.stmt-returns-clause-read
stmt-returns-clause-read t c =
    let low : 1 ≤ c.args.deep = omega arith in
    rw (stmt_below c.args.unit c.args.deep c.args.may_declare c.args.in_loop c.args.scope.now c.args.tokens.now low) c.stmt_at.ensures.read

pub stmt-returns-then-deep-eq0-clause-read : goal.stmt-returns-then-deep-eq0-clause-read
stmt-returns-then-deep-eq0-clause-read t c =
    let none : c.args.deep ≡ 0 = omega arith in
    rw none (stmt_zero c.args.unit c.args.may_declare c.args.in_loop c.args.scope.now c.args.tokens.now)
