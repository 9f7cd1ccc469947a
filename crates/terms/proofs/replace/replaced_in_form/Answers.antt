use Rattle.std.proofs.Common.{◌∙◌, ap, []}
use Rattle.std.specs.Option.{option_copied}
use Rattle.terms.specs.Code.Rewriting.{change_of, change_below, put_nodes}
use Rattle.terms.proofs.RewritingLaws.{form_made}
use Rattle.terms.proofs.replace.replaced_in_form.Goals as goal

pub from_nodes-requires : goal.from_nodes-requires
from_nodes-requires c = (form_made (change_below (option_copied c.args.bound) (change_of c.args.by.now)) c.args.form.now c.in_ok-replaced_nodes.field-0.items
    (c.in_ok-replaced_nodes.ensures ∙ ap (put_nodes (change_below (option_copied c.args.bound) (change_of c.args.by.now)) []) c.nodes.ensures)).0

pub returns : goal.returns
returns c = c.from_nodes.ensures ∙ (form_made (change_below (option_copied c.args.bound) (change_of c.args.by.now)) c.args.form.now c.in_ok-replaced_nodes.field-0.items
    (c.in_ok-replaced_nodes.ensures ∙ ap (put_nodes (change_below (option_copied c.args.bound) (change_of c.args.by.now)) []) c.nodes.ensures)).1
