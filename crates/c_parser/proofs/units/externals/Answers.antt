use Rattle.std.proofs.Common.{arith, ◌≡◌, ◌<◌, length}
use Rattle.std.proofs.lemmas.Result.{err_from_is_err_and}
use Rattle.c_parser.proofs.UnitTurns.{goes_on, ends, fails}
use Rattle.c_parser.proofs.units.externals.Goals as goal

pub returns-in_err-rest : goal.returns-in_err-rest
returns-in_err-rest c =
    let p = err_from_is_err_and c.from_residual.result c.from_residual.ensures.1 in
    let some : 0 < length c.loop-rest.rest.now = grind (arith, c.is_empty.ensures, c.loop-rest-test.true) in
    rw (p.1, p.2) (fails c.args.unit c.args.deep c.loop-rest.parts c.loop-rest.rest.now _ c.in_err-rest.field-0.0 some c.in_err-rest.ensures.read c.loop-rest.invariant)

pub loop-rest-preserved : goal.loop-rest-preserved
loop-rest-preserved c = goes_on c.args.unit c.args.deep c.loop-rest.parts c.loop-rest.rest.now _ _ c.in_ok-rest.ensures.read c.in_ok-rest.ensures.rest c.loop-rest.invariant

pub returns : goal.returns
returns c =
    let none : length c.loop-rest.rest.now ≡ 0 = grind (arith, c.is_empty.ensures, c.loop-rest-test.false) in
    ends c.args.unit c.args.deep c.loop-rest.parts c.loop-rest.rest.now _ none c.loop-rest.invariant
