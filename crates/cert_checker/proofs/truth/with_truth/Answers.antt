use Rattle.std.proofs.Common.{rules, ◌≡◌, ◌∙◌, [], Some, reverse, ap, sym}
use Rattle.terms.specs.Nodes.{form_nodes}
use Rattle.terms.proofs.OperandLaws.{is_form}
use Rattle.cert_checker.specs.Code.Truths.{put_form, put_after}
use Rattle.cert_checker.proofs.truth.with_truth.Goals as goal

pub from_nodes-requires : goal.from_nodes-requires
from_nodes-requires c =
    let empty : c.loop-next.parts.items ≡ [] = search rules in
    let made : c.loop-next.out.items ≡ form_nodes (put_form c.args.by.now c.args.form.now (Some c.args.place)).0 =
    ap (λ ps. put_after c.args.by.now (reverse ps) c.loop-next.left c.loop-next.out.items) (sym empty) ∙ c.loop-next.invariant in
    (is_form (put_form c.args.by.now c.args.form.now (Some c.args.place)).0 c.loop-next.out.items made).0

pub returns : goal.returns
returns c =
    let empty : c.loop-next.parts.items ≡ [] = search rules in
    let made : c.loop-next.out.items ≡ form_nodes (put_form c.args.by.now c.args.form.now (Some c.args.place)).0 =
    ap (λ ps. put_after c.args.by.now (reverse ps) c.loop-next.left c.loop-next.out.items) (sym empty) ∙ c.loop-next.invariant in
    c.from_nodes.ensures ∙ (is_form (put_form c.args.by.now c.args.form.now (Some c.args.place)).0 c.loop-next.out.items made).1
