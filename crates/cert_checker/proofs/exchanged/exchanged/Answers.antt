use Rattle.std.proofs.Common.{rules, ◌≡◌, ◌∙◌, [], reverse, ap, sym}
use Rattle.terms.specs.Nodes.{form_nodes}
use Rattle.terms.proofs.OperandLaws.{is_form}
use Rattle.cert_checker.specs.Places.{exchanged_form}
use Rattle.cert_checker.specs.Code.Exchanging.{exchanged_after}
use Rattle.cert_checker.proofs.exchanged.exchanged.Goals as goal

pub from_nodes-requires : goal.from_nodes-requires
from_nodes-requires c =
    let empty : c.loop-next.parts.items ≡ [] = search rules in
    let made : c.loop-next.out.items ≡ form_nodes (exchanged_form c.args.from.now c.args.to.now c.args.form.now) =
    ap (λ ps. exchanged_after c.args.from.now c.args.to.now (reverse ps) c.loop-next.out.items) (sym empty) ∙ c.loop-next.invariant in
    (is_form (exchanged_form c.args.from.now c.args.to.now c.args.form.now) c.loop-next.out.items made).0

pub returns : goal.returns
returns c =
    let empty : c.loop-next.parts.items ≡ [] = search rules in
    let made : c.loop-next.out.items ≡ form_nodes (exchanged_form c.args.from.now c.args.to.now c.args.form.now) =
    ap (λ ps. exchanged_after c.args.from.now c.args.to.now (reverse ps) c.loop-next.out.items) (sym empty) ∙ c.loop-next.invariant in
    c.from_nodes.ensures ∙ (is_form (exchanged_form c.args.from.now c.args.to.now c.args.form.now) c.loop-next.out.items made).1
