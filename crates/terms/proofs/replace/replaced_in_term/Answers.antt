use Rattle.std.proofs.Common.{◌∙◌, ap, []}
use Rattle.std.specs.Option.{option_copied}
use Rattle.terms.specs.Code.Rewriting.{change_of, change_below, put_nodes}
use Rattle.terms.proofs.RewritingLaws.{term_made}
use Rattle.terms.proofs.replace.replaced_in_term.Goals as goal

pub from_nodes-requires : goal.from_nodes-requires
from_nodes-requires c = (term_made (change_below (option_copied c.args.bound) (change_of c.args.by.now)) c.args.term.now c.in_ok-replaced_nodes.field-0.items
    (c.in_ok-replaced_nodes.ensures ∙ ap (put_nodes (change_below (option_copied c.args.bound) (change_of c.args.by.now)) []) c.nodes.ensures)).0

pub returns : goal.returns
returns c = c.from_nodes.ensures ∙ (term_made (change_below (option_copied c.args.bound) (change_of c.args.by.now)) c.args.term.now c.in_ok-replaced_nodes.field-0.items
    (c.in_ok-replaced_nodes.ensures ∙ ap (put_nodes (change_below (option_copied c.args.bound) (change_of c.args.by.now)) []) c.nodes.ensures)).1
