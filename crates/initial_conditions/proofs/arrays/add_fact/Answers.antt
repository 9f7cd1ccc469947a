use Rattle.std.proofs.Common.{◌||◌, sym, ap, ◌∙◌}
use Rattle.std.proofs.lemmas.Result.{IfOk-weaker}
use Rattle.terms.specs.Code.Occurrences.{nodes_pass}
use Rattle.expression_conditions.specs.Meanings.{current}
use Rattle.weakest_preconditions.specs.Conditions.{is_array}
use Rattle.initial_conditions.specs.Code.Arrays.{has, mentions_array}
use Rattle.initial_conditions.proofs.ArrayLaws.{with_form, with_parts}
use Rattle.initial_conditions.proofs.arrays.add_fact.Goals as goal

pub returns-in-Plain : goal.returns-in-Plain
returns-in-Plain c = IfOk-weaker c.add_nodes.result _ _
    (λ _ found x. found x ∙ with_form x (has c.args.table.now x) c.in-Plain.form c.nodes.result.now c.nodes.ensures ∙ ap (λ f. has c.args.table.now x || mentions_array f x) (sym c.in-Plain.is))
    c.add_nodes.ensures

pub returns-in_ok-add_nodes-in-All-2 : goal.returns-in_ok-add_nodes-in-All-2
returns-in_ok-add_nodes-in-All-2 c = IfOk-weaker c.add_nodes-in-All-3.result _ _
    (λ _ found x. found x
    ∙ ap (λ b. b || nodes_pass (is_array (current x)) c.nodes-in-All-3.result.now) (c.in_ok-add_nodes-in-All-2.ensures x
    ∙ ap (λ b. b || nodes_pass (is_array (current x)) c.nodes-in-All-2.result.now) (c.in_ok-add_nodes-in-All.ensures x))
    ∙ with_parts x (has c.args.table.now x) c.in-All.var c.in-All.lo c.in-All.hi c.in-All.body
    c.nodes-in-All.result.now c.nodes-in-All-2.result.now c.nodes-in-All-3.result.now c.nodes-in-All.ensures c.nodes-in-All-2.ensures c.nodes-in-All-3.ensures
    ∙ ap (λ f. has c.args.table.now x || mentions_array f x) (sym c.in-All.is))
    c.add_nodes-in-All-3.ensures
