use Rattle.terms.specs.declared.node.NodeKind.TheVariants as kind
use Rattle.terms.specs.Trees.{both}
use Rattle.terms.proofs.OperandLaws.{form_count, is_form, made_of_two}
use Rattle.terms.proofs.form.Form.both.Goals as goal

pub invariant_of-result : goal.invariant_of-result
invariant_of-result c = (is_form (both c.args.left c.args.right) _ (made_of_two _ _ _ _ _ _ _ _ kind.And c.into_nodes.ensures c.into_nodes-2.ensures c.in_ok-operands.ensures c.in_ok-under.ensures
    (form_count c.args.left) (form_count c.args.right))).0

pub returns : goal.returns
returns c = (is_form (both c.args.left c.args.right) _ (made_of_two _ _ _ _ _ _ _ _ kind.And c.into_nodes.ensures c.into_nodes-2.ensures c.in_ok-operands.ensures c.in_ok-under.ensures
    (form_count c.args.left) (form_count c.args.right))).1
