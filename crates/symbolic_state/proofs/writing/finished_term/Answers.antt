use Rattle.std.proofs.Common.{◌≡◌, ◌<◌, ◌∙◌, ap, subst, length, []}
use Rattle.terms.specs.Code.Rewriting.{put_nodes}
use Rattle.terms.proofs.RewritingLaws.{term_made}
use Rattle.symbolic_state.specs.Code.Room.{NodesUpTo}
use Rattle.symbolic_state.specs.Code.Writing.{change_at}
use Rattle.symbolic_state.proofs.RoomLaws.{term_length}
use Rattle.symbolic_state.proofs.writing.finished_term.Goals as goal

pub from_nodes-requires : goal.from_nodes-requires
from_nodes-requires c =
    let made : c.in-Some.nodes.items ≡ put_nodes (change_at c.args.state.now c.args.time) [] c.nodes.result.now =
    subst (NodesUpTo c.args.room (put_nodes (change_at c.args.state.now c.args.time) [] c.nodes.result.now)) c.in-Some.is c.in_ok-nodes.ensures in
    (term_made (change_at c.args.state.now c.args.time) c.args.term.now c.in-Some.nodes.items (made ∙ ap (put_nodes (change_at c.args.state.now c.args.time) []) c.nodes.ensures)).0

pub returns-in-Some : goal.returns-in-Some
returns-in-Some c =
    let made : c.in-Some.nodes.items ≡ put_nodes (change_at c.args.state.now c.args.time) [] c.nodes.result.now =
    subst (NodesUpTo c.args.room (put_nodes (change_at c.args.state.now c.args.time) [] c.nodes.result.now)) c.in-Some.is c.in_ok-nodes.ensures in
    c.from_nodes.ensures ∙ (term_made (change_at c.args.state.now c.args.time) c.args.term.now c.in-Some.nodes.items (made ∙ ap (put_nodes (change_at c.args.state.now c.args.time) []) c.nodes.ensures)).1

pub returns-in-None : goal.returns-in-None
returns-in-None c =
    let past : c.args.room < length (put_nodes (change_at c.args.state.now c.args.time) [] c.nodes.result.now) =
    subst (NodesUpTo c.args.room (put_nodes (change_at c.args.state.now c.args.time) [] c.nodes.result.now)) c.in-None.is c.in_ok-nodes.ensures in
    subst (λ n. c.args.room < n) (ap (λ ns. length (put_nodes (change_at c.args.state.now c.args.time) [] ns)) c.nodes.ensures ∙ term_length (change_at c.args.state.now c.args.time) c.args.term.now) past
