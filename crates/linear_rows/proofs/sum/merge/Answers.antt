use Rattle.std.proofs.Common.{rules, ◌≡◌, ◌∙◌, true, length, length-drop, ◌++◌, [], arith, ap, sym, subst, of_z, to_z}
use Rattle.std.specs.Int.{w128}
use Rattle.linear_rows.specs.Sums.{all_fit, before}
use Rattle.linear_rows.proofs.MergeLaws.{merge-step, all_fit-drop}
use Rattle.linear_rows.proofs.sum.merge.Goals as goal

pub next_part-next-requires-clause-small : goal.next_part-next-requires-clause-small
next_part-next-requires-clause-small c = subst (λ l. all_fit l ≡ true) (sym c.rest.ensures) (all_fit-drop c.loop-i.i c.args.left.now c.requires.small)

pub loop-i-preserved : goal.loop-i-preserved
loop-i-preserved c =
    let times = to_z w128 (of_z w128 c.args.times) in
    let same_c : to_z w128 (of_z w128 c.in-Some.coefficient) ≡ c.in-Some.coefficient = search rules in
    let next = c.next_part-next.ensures in
    let left_in = ap length c.rest.ensures ∙ length-drop c.loop-i.i c.args.left.now in
    let right_in = ap length c.rest-in-loop-i.ensures ∙ length-drop c.loop-i.j c.args.right.now in
    let l_by = next.0 in
    let r_by = next.1 in
    let inv = c.loop-i.invariant in
    let i_in = inv.0 in
    let j_in = inv.1 in
    let pushed = c.in_ok-push_part.ensures.pushed ∙ ap (λ z. c.loop-i.parts.items ++ before (c.next_part-next.result.atom, z) []) same_c in
    let step = merge-step times c.args.left.now c.args.right.now c.rest.result.now c.rest-in-loop-i.result.now c.loop-i.parts.items c.push_part.new.parts.items
    c.loop-i.i c.loop-i.j c.next_part-next.result.left_by c.next_part-next.result.right_by c.next_part-next.result.atom next.3.0 c.in-Some.coefficient c.next_part-next.result.coefficient
    inv.2 inv.3 c.rest.ensures c.rest-in-loop-i.ensures next.3.2 next.3.1 c.in-Some.is pushed in
    (omega arith, omega arith, step.0, step.1)
