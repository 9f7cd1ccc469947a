use Rattle.loop_invariants.specs.Clauses.{Names, may_be_form}
use Rattle.loop_invariants.specs.Code.Allowed.{seen_under}
use Rattle.loop_invariants.proofs.Operands.{both_hold, first_fails, forms_under, denied_under}
use Rattle.loop_invariants.proofs.clauses.Allowed.+form.Goals as goal

pub forms-returns-then-form : goal.forms-returns-then-form
forms-returns-then-form n c =
    let names : Names = seen_under c.args.inside c.args.self.now in
    forms_under names c.args.operators c.in-Some.below c.in-Some.ensures.0 c.in-Some.ensures.1 c.args.left.now c.args.right.now c.form-then-form.result
    (both_hold (may_be_form names c.in-Some.below c.args.left.now) (may_be_form names c.in-Some.below c.args.right.now) c.form.result c.form-then-form.result
    c.form.ensures c.if-form.true c.form-then-form.ensures)

pub forms-returns-else-form : goal.forms-returns-else-form
forms-returns-else-form n c =
    let names : Names = seen_under c.args.inside c.args.self.now in
    forms_under names c.args.operators c.in-Some.below c.in-Some.ensures.0 c.in-Some.ensures.1 c.args.left.now c.args.right.now c.form.result
    (first_fails (may_be_form names c.in-Some.below c.args.left.now) (may_be_form names c.in-Some.below c.args.right.now) c.form.result c.form.ensures c.if-form.false)

pub denial-returns-in-Some : goal.denial-returns-in-Some
denial-returns-in-Some n c = denied_under (seen_under c.args.inside c.args.self.now) c.args.operators c.in-Some.below c.in-Some.ensures.0 c.in-Some.ensures.1
    c.args.form.now c.form.result c.form.ensures
