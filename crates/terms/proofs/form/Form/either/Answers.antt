use Rattle.terms.specs.declared.node.NodeKind.TheVariants as kind
use Rattle.terms.specs.Trees.{either}
use Rattle.terms.proofs.OperandLaws.{form_count, is_form, made_of_two}
use Rattle.terms.proofs.form.Form.either.Goals as goal

pub invariant_of-result : goal.invariant_of-result
invariant_of-result c = (is_form (either c.args.left c.args.right) _ (made_of_two _ _ _ _ _ _ _ _ kind.Or c.into_nodes.ensures c.into_nodes-2.ensures c.in_ok-operands.ensures c.in_ok-under.ensures
    (form_count c.args.left) (form_count c.args.right))).0

pub returns : goal.returns
returns c = (is_form (either c.args.left c.args.right) _ (made_of_two _ _ _ _ _ _ _ _ kind.Or c.into_nodes.ensures c.into_nodes-2.ensures c.in_ok-operands.ensures c.in_ok-under.ensures
    (form_count c.args.left) (form_count c.args.right))).1
