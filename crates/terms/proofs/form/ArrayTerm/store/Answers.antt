use Rattle.terms.specs.declared.node.NodeKind.TheVariants as kind
use Rattle.terms.specs.Trees.{stored}
use Rattle.terms.proofs.OperandLaws.{is_array, array_count, term_count, made_of_three}
use Rattle.terms.proofs.form.ArrayTerm.store.Goals as goal

pub invariant_of-result : goal.invariant_of-result
invariant_of-result c = (is_array (stored c.args.inner c.args.index c.args.value) _ (made_of_three _ _ _ _ _ _ _ _ _ _ _ _ kind.Store
    c.into_nodes.ensures c.into_nodes-2.ensures c.into_nodes-3.ensures c.in_ok-front.ensures c.in_ok-operands.ensures c.in_ok-under.ensures
    (array_count c.args.inner) (term_count c.args.index) (term_count c.args.value))).0

pub returns : goal.returns
returns c = (is_array (stored c.args.inner c.args.index c.args.value) _ (made_of_three _ _ _ _ _ _ _ _ _ _ _ _ kind.Store
    c.into_nodes.ensures c.into_nodes-2.ensures c.into_nodes-3.ensures c.in_ok-front.ensures c.in_ok-operands.ensures c.in_ok-under.ensures
    (array_count c.args.inner) (term_count c.args.index) (term_count c.args.value))).1
