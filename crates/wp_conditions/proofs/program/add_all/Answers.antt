use Rattle.std.proofs.Common.{◌≡◌, ◌+◌, ◌∷◌, drop, subst}
use Rattle.wp_conditions.specs.Code.Whole.{so_far, IsOneRun, Runs}
use Rattle.wp_conditions.proofs.WholeLaws.{goes_on, stops, ends, one_left, none_left}
use Rattle.wp_conditions.proofs.program.add_all.Goals as goal

pub returns-then-not-branch : goal.returns-then-not-branch
returns-then-not-branch c =
    let split : drop c.loop-func.func-index c.args.funcs.now ≡ c.func-item.result ∷ drop (c.loop-func.func-index + 1) c.args.funcs.now
    = one_left c.args.funcs.now c.loop-func.func-index c.func-item.result c.loop-func-test.true c.func-item.is in
    stops c.args.context.now c.args.made.now c.loop-func.made c.add_one.new.made c.args.funcs.now (drop (c.loop-func.func-index + 1) c.args.funcs.now) c.func-item.result
    (subst (Runs c.args.context.now c.args.made.now c.args.funcs.now c.loop-func.made) split c.loop-func.invariant)
    (subst (IsOneRun c.args.context.now (so_far c.loop-func.made) c.func-item.result c.add_one.new.made) c.if-not-branch.true c.in_ok-add_one.ensures)

pub loop-func-preserved : goal.loop-func-preserved
loop-func-preserved c =
    let split : drop c.loop-func.func-index c.args.funcs.now ≡ c.func-item.result ∷ drop (c.loop-func.func-index + 1) c.args.funcs.now
    = one_left c.args.funcs.now c.loop-func.func-index c.func-item.result c.loop-func-test.true c.func-item.is in
    goes_on c.args.context.now c.args.made.now c.loop-func.made c.add_one.new.made c.args.funcs.now (drop (c.loop-func.func-index + 1) c.args.funcs.now) c.func-item.result
    (subst (Runs c.args.context.now c.args.made.now c.args.funcs.now c.loop-func.made) split c.loop-func.invariant)
    (subst (IsOneRun c.args.context.now (so_far c.loop-func.made) c.func-item.result c.add_one.new.made) c.if-not-branch.false c.in_ok-add_one.ensures)

pub returns : goal.returns
returns c = ends c.args.context.now c.args.made.now c.loop-func.made c.args.funcs.now
    (subst (Runs c.args.context.now c.args.made.now c.args.funcs.now c.loop-func.made) (none_left c.args.funcs.now c.loop-func.func-index c.loop-func-test.false) c.loop-func.invariant)
