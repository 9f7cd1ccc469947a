use Rattle.terms.specs.declared.node.NodeKind.TheVariants as kind
use Rattle.terms.specs.Trees.{denied}
use Rattle.terms.proofs.OperandLaws.{is_form, form_count, made_of_one}
use Rattle.terms.proofs.form.Form.denied.Goals as goal

pub invariant_of-result : goal.invariant_of-result
invariant_of-result c = (is_form (denied c.args.form) _ (made_of_one _ _ _ _ kind.Not c.into_nodes.ensures c.in_ok-under.ensures (form_count c.args.form))).0

pub returns : goal.returns
returns c = (is_form (denied c.args.form) _ (made_of_one _ _ _ _ kind.Not c.into_nodes.ensures c.in_ok-under.ensures (form_count c.args.form))).1
