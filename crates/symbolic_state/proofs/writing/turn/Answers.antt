use Rattle.std.proofs.Common.{◌≡◌, [], ◌∷◌, ◌++◌, ap, ◌∙◌, rules}
use Rattle.terms.specs.Code.Rewriting.{put_operator}
use Rattle.symbolic_state.specs.Code.Writing.{written_in}
use Rattle.symbolic_state.proofs.NextLaws.{turn_into, turn_on}
use Rattle.symbolic_state.proofs.writing.turn.Goals as goal

pub returns-in_ok-push-in-Some-value_of : goal.returns-in_ok-push-in-Some-value_of
returns-in_ok-push-in-Some-value_of c =
    let whole : c.args.parts.now.items ≡ c.pop.new.self.items ++ ((c.in-Some.nodes, c.in-Some.time) ∷ []) = search rules in
    let nodes : c.in-Some.nodes.now ≡ c.in-Some-split_first.node.now ∷ c.in-Some-split_first.rest.now = search rules in
    ap (written_in c.args.state.now c.args.out.now.items) (c.in_ok-push-in-Some-value_of.ensures.items ∙ ap (λ ps. ps ++ (c.in-Some-value_of.value ∷ [])) c.in_ok-push.ensures.items)
    ∙ turn_into c.args.state.now c.args.out.now.items c.args.parts.now.items c.pop.new.self.items (c.in-Some.nodes, c.in-Some.time) c.in-Some-split_first.node.now c.in-Some-split_first.rest whole nodes c.in-Some-value_of.value c.in-Some-value_of.ensures

pub returns-in_ok-put_operator-in-None : goal.returns-in_ok-put_operator-in-None
returns-in_ok-put_operator-in-None c =
    let whole : c.args.parts.now.items ≡ c.pop.new.self.items ++ ((c.in-Some.nodes, c.in-Some.time) ∷ []) = search rules in
    let nodes : c.in-Some.nodes.now ≡ c.in-Some-split_first.node.now ∷ c.in-Some-split_first.rest.now = search rules in
    let kind : c.in_ok-copy-in-None.field-0 ≡ c.in-Some-split_first.node.now.kind = search rules in
    ap (written_in c.args.state.now c.put_operator.new.out.items) c.in_ok-push.ensures.items
    ∙ turn_on c.args.state.now c.args.out.now.items c.args.parts.now.items c.pop.new.self.items (c.in-Some.nodes, c.in-Some.time) c.in-Some-split_first.node.now c.in-Some-split_first.rest whole nodes c.in-None.ensures c.put_operator.new.out.items (c.in_ok-put_operator-in-None.ensures ∙ ap (put_operator c.args.out.now.items) kind)
