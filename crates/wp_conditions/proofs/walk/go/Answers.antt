use Rattle.std.proofs.Common.{◌≡◌, ◌≤◌, List, ◌++◌, map, length, sym, subst, ap, ◌∙◌, arith, rules}
use Rattle.std.proofs.lemmas.Result.{on_ok_weaker}
use Rattle.loop_invariants.specs.Context.{Context}
use Rattle.symbolic_state.specs.declared.step.Step.{Step}
use Rattle.symbolic_state.specs.Steps.{finished, outermost}
use Rattle.control_flow.specs.Seen.{conditions_in}
use Rattle.wp_conditions.specs.Code.Edges.{Edge, edge_steps, context_for}
use Rattle.wp_conditions.specs.Code.Growing.{grown}
use Rattle.wp_conditions.specs.Code.Waiting.{Waiting, left, Stacked, seen_edge, seen_stack}
use Rattle.wp_conditions.proofs.StepLaws.{edge_more}
use Rattle.wp_conditions.proofs.WalkLaws.{left_longer, outer_length, stacked_more}
use Rattle.wp_conditions.proofs.walk.go.Goals as goal

pub arrive-requires-clause-stacked : goal.arrive-requires-clause-stacked
arrive-requires-clause-stacked c =
    let x : Context = context_for c.args.site.now in
    let edge : Edge = seen_edge c.args.entry.edge in
    let before : List Step = outermost c.args.entry.mark c.args.state.now in
    let steps : c.follow.new.state ≡ edge_steps x edge before = search rules in
    let marked : length before ≡ c.args.entry.mark = outer_length c.args.entry.mark c.args.state.now c.requires.stacked.0 in
    let longer : length before ≤ length (edge_steps x edge before) = (edge_more x before edge).longer_is in
    subst (λ s. Stacked (length s) (seen_stack c.args.waiting.now.items)) (sym steps)
    (stacked_more x c.args.site.now.2.name (conditions_in c.args.graph.now) c.args.entry.mark (length (edge_steps x edge before)) (seen_stack c.args.waiting.now.items)
    (omega (arith, marked, longer)) c.requires.stacked.1)

pub returns-clause-made : goal.returns-clause-made
returns-clause-made c =
    let x : Context = context_for c.args.site.now in
    let edge : Edge = seen_edge c.args.entry.edge in
    let ws : List Waiting = seen_stack c.args.waiting.now.items in
    let before : List Step = outermost c.args.entry.mark c.args.state.now in
    let steps : c.follow.new.state ≡ edge_steps x edge before = search rules in
    let marked : length before ≡ c.args.entry.mark = outer_length c.args.entry.mark c.args.state.now c.requires.stacked.0 in
    let stacked : Stacked (length before) ws = subst (λ n. Stacked n ws) (sym marked) c.requires.stacked.1 in
    on_ok_weaker c.arrive.result (λ e. e ∙ ap (grown c.args.site.now.0 c.args.site.now.2 c.args.made.now)
    (ap (λ s. map (finished s) (conditions_in c.args.graph.now c.args.entry.number) ++ left x (conditions_in c.args.graph.now) s ws) steps
    ∙ ap (λ l. map (finished (edge_steps x edge before)) (conditions_in c.args.graph.now c.args.entry.number) ++ l)
    (left_longer x c.args.site.now.2.name (conditions_in c.args.graph.now) before (edge_steps x edge before) ws (edge_more x before edge) stacked)))
    c.arrive.ensures.made
