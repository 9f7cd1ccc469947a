use Rattle.std.proofs.Common.{arith, sym, refl, ◌+◌, ◌<◌, length}
use Rattle.std.proofs.lemmas.Result.{err_from_is_err_and}
use Rattle.c_expressions.specs.Code.SideReading as spec
use Rattle.c_expressions.proofs.SeparatedTurns.{goes_on, ends, fails}
use Rattle.c_expressions.proofs.pointer.ints.Goals as goal

pub loop-next-init : goal.loop-next-init
loop-next-init c = record { total = (length c.args.tokens.now + 1, omega arith, refl); count = omega arith; shorter = omega arith }

pub returns-in_err-next-clause-read : goal.returns-in_err-next-clause-read
returns-in_err-next-clause-read c =
    let p = err_from_is_err_and c.from_residual.result c.from_residual.ensures.1 in
    rw (p.1, p.2) (fails spec.count_int c.loop-next.count c.loop-next.rest.now _ c.in_err-next.field-0.0 c.in_err-next.ensures.read c.loop-next.invariant.total)

pub returns-in-None-clause-read : goal.returns-in-None-clause-read
returns-in-None-clause-read c =
    ends spec.count_int c.loop-next.count c.loop-next.rest.now _ _ c.in_ok-next.ensures.read (sym c.in-None.ensures.value) c.loop-next.invariant.total

pub loop-next-preserved : goal.loop-next-preserved
loop-next-preserved c =
    let x = c.in_ok-next.ensures in
    let shorter : length c.in-Some.others.now < length c.loop-next.rest.now = omega (arith, x.rest, c.in-Some.ensures.rest) in
    record {
      total = goes_on spec.count_int c.loop-next.count c.loop-next.rest.now c.in-Some.others.now _ _ x.read (sym c.in-Some.ensures.value) shorter c.loop-next.invariant.total;
      count = x.count;
      shorter = omega (arith, shorter, c.loop-next.invariant.shorter);
    }
