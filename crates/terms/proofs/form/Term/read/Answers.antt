use Rattle.terms.specs.declared.node.NodeKind.TheVariants as kind
use Rattle.terms.specs.Trees.{read}
use Rattle.terms.proofs.OperandLaws.{array_count, is_term, made_of_two, term_count}
use Rattle.terms.proofs.form.Term.read.Goals as goal

pub invariant_of-result : goal.invariant_of-result
invariant_of-result c = (is_term (read c.args.from c.args.index) _ (made_of_two _ _ _ _ _ _ _ _ kind.Read c.into_nodes.ensures c.into_nodes-2.ensures c.in_ok-operands.ensures c.in_ok-under.ensures
    (array_count c.args.from) (term_count c.args.index))).0

pub returns : goal.returns
returns c = (is_term (read c.args.from c.args.index) _ (made_of_two _ _ _ _ _ _ _ _ kind.Read c.into_nodes.ensures c.into_nodes-2.ensures c.in_ok-operands.ensures c.in_ok-under.ensures
    (array_count c.args.from) (term_count c.args.index))).1
