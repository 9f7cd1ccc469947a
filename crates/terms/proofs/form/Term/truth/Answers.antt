use Rattle.terms.specs.declared.node.NodeKind.TheVariants as kind
use Rattle.terms.specs.Trees.{truth}
use Rattle.terms.proofs.OperandLaws.{is_term, form_count, made_of_one}
use Rattle.terms.proofs.form.Term.truth.Goals as goal

pub invariant_of-result : goal.invariant_of-result
invariant_of-result c = (is_term (truth c.args.form) _ (made_of_one _ _ _ _ kind.Truth c.into_nodes.ensures c.in_ok-under.ensures (form_count c.args.form))).0

pub returns : goal.returns
returns c = (is_term (truth c.args.form) _ (made_of_one _ _ _ _ kind.Truth c.into_nodes.ensures c.in_ok-under.ensures (form_count c.args.form))).1
