use Rattle.std.proofs.Common.{◌≡◌, ◌<◌, [], ◌∷◌, ◌++◌, length, sym, ap, ◌∙◌, rules}
use Rattle.terms.specs.Code.Rewriting.{put_nodes}
use Rattle.symbolic_state.specs.Code.Writing.{change_at, written_in}
use Rattle.symbolic_state.proofs.NextLaws.{nothing_left}
use Rattle.symbolic_state.proofs.RoomLaws.{written_past}
use Rattle.symbolic_state.proofs.writing.write.Goals as goal

pub loop-init : goal.loop-init
loop-init c =
    let out : c.new-out.result.items ≡ [] = search rules in
    let parts : c.push.new.self.items ≡ (c.args.nodes, c.args.time) ∷ [] = c.in_ok-push.ensures.items ∙ ap (λ ps. ps ++ ((c.args.nodes, c.args.time) ∷ [])) c.new-parts.ensures.items in
    ap (λ ps. written_in c.args.state.now c.new-out.result.items ps) parts ∙ ap (λ ns. written_in c.args.state.now ns ((c.args.nodes, c.args.time) ∷ [])) out

pub returns-then-is_empty : goal.returns-then-is_empty
returns-then-is_empty c =
    let empty : length c.loop.parts.items ≡ 0 = search rules in
    sym (ap (written_in c.args.state.now c.loop.out.items) (nothing_left c.loop.parts.items empty)) ∙ c.loop.invariant

pub returns-then-len-room : goal.returns-then-len-room
returns-then-len-room c =
    let past : c.args.room < length c.loop.out.items = search rules in
    written_past c.args.state.now c.loop.out.items c.loop.parts.items (put_nodes (change_at c.args.state.now c.args.time) [] c.args.nodes.now) c.args.room c.loop.invariant past
