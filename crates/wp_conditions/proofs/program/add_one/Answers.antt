use Rattle.std.proofs.Common.{subst}
use Rattle.wp_conditions.specs.Code.Functions.{IsAdded}
use Rattle.wp_conditions.proofs.WholeLaws.{one_added}
use Rattle.wp_conditions.proofs.program.add_one.Goals as goal

pub returns : goal.returns
returns c = one_added c.args.context.now c.args.func.now c.args.made.now c.add_function.new.made c.requires
    (subst (IsAdded c.args.context.now c.args.func.now c.args.made.now c.add_function.new.made) c.if-not-branch.false c.in_ok-add_function.ensures)
    c.is_full.result c.is_full.ensures
