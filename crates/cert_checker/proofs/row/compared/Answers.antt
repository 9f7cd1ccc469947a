use Rattle.std.proofs.Common.{◌≡◌, [], reverse, subst, sym}
use Rattle.cert_checker.specs.Code.Steps.{ComesTo}
use Rattle.cert_checker.specs.Code.Comparisons.{at_zero}
use Rattle.cert_checker.proofs.ComparisonLaws.{goal_of, comes-to, has-goal, steps-are, compared-row, compared-fails}
use Rattle.cert_checker.proofs.row.compared.Goals as goal

pub made-requires : goal.made-requires
made-requires c = has-goal c.args.comparison c.args.atoms.now.items (reverse c.push_operands.new.steps.items) (steps-are c.args.comparison (reverse c.push_operands.new.steps.items) c.new-steps.result.items c.operation.result c.in_ok-push_operands.ensures.pushed c.operation.ensures c.new-steps.ensures.items)

pub at_zero-requires : goal.at_zero-requires
at_zero-requires c = (c.in-Ok.ensures.makes (goal_of c.args.comparison c.args.atoms.now.items) (subst (λ l. ComesTo (goal_of c.args.comparison c.args.atoms.now.items) l [] c.args.atoms.now.items) (sym (steps-are c.args.comparison (reverse c.push_operands.new.steps.items) c.new-steps.result.items c.operation.result c.in_ok-push_operands.ensures.pushed c.operation.ensures c.new-steps.ensures.items))
    (comes-to c.args.comparison c.args.atoms.now.items))).fits

pub returns-in-Ok-clause-row : goal.returns-in-Ok-clause-row
returns-in-Ok-clause-row c = compared-row c.args.comparison c.args.atoms.now.items c.made.new.atoms.items c.in-Ok.sum c.at_zero.result
    (subst (λ b. c.at_zero.result ≡ at_zero c.in-Ok.sum b) c.is_equality.ensures c.at_zero.ensures)
    (c.in-Ok.ensures.makes (goal_of c.args.comparison c.args.atoms.now.items) (subst (λ l. ComesTo (goal_of c.args.comparison c.args.atoms.now.items) l [] c.args.atoms.now.items) (sym (steps-are c.args.comparison (reverse c.push_operands.new.steps.items) c.new-steps.result.items c.operation.result c.in_ok-push_operands.ensures.pushed c.operation.ensures c.new-steps.ensures.items))
    (comes-to c.args.comparison c.args.atoms.now.items)))

pub returns-in-Err-clause-row : goal.returns-in-Err-clause-row
returns-in-Err-clause-row c = compared-fails c.args.comparison c.args.atoms.now.items c.made.new.atoms.items c.in-Err.fail
    (c.in-Err.ensures.makes (goal_of c.args.comparison c.args.atoms.now.items) (subst (λ l. ComesTo (goal_of c.args.comparison c.args.atoms.now.items) l [] c.args.atoms.now.items) (sym (steps-are c.args.comparison (reverse c.push_operands.new.steps.items) c.new-steps.result.items c.operation.result c.in_ok-push_operands.ensures.pushed c.operation.ensures c.new-steps.ensures.items))
    (comes-to c.args.comparison c.args.atoms.now.items)))
