use Rattle.terms.specs.declared.node.NodeKind.TheVariants as kind
use Rattle.terms.specs.Trees.{plus}
use Rattle.terms.proofs.OperandLaws.{is_term, made_of_two, term_count}
use Rattle.terms.proofs.form.Term.add.Goals as goal

pub invariant_of-result : goal.invariant_of-result
invariant_of-result c = (is_term (plus c.args.left c.args.right) _ (made_of_two _ _ _ _ _ _ _ _ kind.Add c.into_nodes.ensures c.into_nodes-2.ensures c.in_ok-operands.ensures c.in_ok-under.ensures
    (term_count c.args.left) (term_count c.args.right))).0

pub returns : goal.returns
returns c = (is_term (plus c.args.left c.args.right) _ (made_of_two _ _ _ _ _ _ _ _ kind.Add c.into_nodes.ensures c.into_nodes-2.ensures c.in_ok-operands.ensures c.in_ok-under.ensures
    (term_count c.args.left) (term_count c.args.right))).1
