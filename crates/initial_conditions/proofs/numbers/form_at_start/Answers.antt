use Rattle.std.proofs.Common.{◌∙◌, ap, []}
use Rattle.terms.specs.Code.Rewriting.{put_nodes}
use Rattle.terms.proofs.RewritingLaws.{form_made}
use Rattle.weakest_preconditions.specs.Changing.{change}
use Rattle.weakest_preconditions.specs.Conditions.{initial_numbers}
use Rattle.initial_conditions.proofs.numbers.form_at_start.Goals as goal

pub from_nodes-requires : goal.from_nodes-requires
from_nodes-requires c = (form_made (change (initial_numbers c.args.names.now)) c.args.form.now c.in_ok-nodes_at_start.field-0.items
    (c.in_ok-nodes_at_start.ensures ∙ ap (put_nodes (change (initial_numbers c.args.names.now)) []) c.nodes.ensures)).0

pub returns : goal.returns
returns c = c.from_nodes.ensures ∙ (form_made (change (initial_numbers c.args.names.now)) c.args.form.now c.in_ok-nodes_at_start.field-0.items
    (c.in_ok-nodes_at_start.ensures ∙ ap (put_nodes (change (initial_numbers c.args.names.now)) []) c.nodes.ensures)).1
