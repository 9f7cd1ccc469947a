use Rattle.std.proofs.Common.{◌≡◌, OnOk, List, ◌++◌, map, length, sym, subst, ap, ap₂, ◌∙◌}
use Rattle.std.proofs.lemmas.Result.{on_ok_weaker}
use Rattle.terms.specs.declared.sequent.What.TheVariants as what
use Rattle.weakest_preconditions.specs.Annotated.{Annotated}
use Rattle.weakest_preconditions.specs.Wp.{Condition, goals}
use Rattle.weakest_preconditions.specs.Conditions.{at_end}
use Rattle.annotated_bodies.specs.Sources.{context_in}
use Rattle.annotated_bodies.specs.Seen.{seen_annotated}
use Rattle.symbolic_state.specs.Steps.{finished}
use Rattle.control_flow.specs.Steps.{at_node, step}
use Rattle.control_flow.specs.Kept.{seen_node}
use Rattle.control_flow.specs.Seen.{conditions_in}
use Rattle.loop_invariants.specs.Context.{Context}
use Rattle.wp_conditions.specs.Code.Edges.{context_for, edges, here}
use Rattle.wp_conditions.specs.Code.Growing.{grown}
use Rattle.wp_conditions.specs.Code.Waiting.{Waiting, left, Stacked, at_mark, seen_stack}
use Rattle.wp_conditions.proofs.GrowingLaws.{grown_append}
use Rattle.wp_conditions.proofs.StepLaws.{itself}
use Rattle.wp_conditions.proofs.WalkLaws.{statement_left, stacked_top, from_two, from_three}
use Rattle.wp_conditions.proofs.walk.arrive.Goals as goal

pub returns-in-Some-Ends-clause-made : goal.returns-in-Some-Ends-clause-made
returns-in-Some-Ends-clause-made c =
    let x : Context = context_for c.args.site.now in
    let ws : List Waiting = seen_stack c.args.waiting.now.items in
    let here : conditions_in c.args.graph.now c.args.number ≡ at_end x c.args.site.now.2
    = c.in-Some-Ends.ensures.conditions
    ∙ ap₂ (λ s f. at_node (context_in s) f.name (at_end (context_in s) f) (seen_node c.in-Some-Ends.field-0.now) (conditions_in c.args.graph.now)) c.requires.context c.requires.func
    ∙ ap (λ m. at_node x c.args.site.now.2.name (at_end x c.args.site.now.2) (seen_node m) (conditions_in c.args.graph.now)) c.in-Some-Ends.field-0-is in
    from_two c.put_end.result (λ made state.
    ap₂ (λ m s. grown c.args.site.now.0 c.args.site.now.2 m (left x (conditions_in c.args.graph.now) s ws)) made state
    ∙ sym (grown_append c.args.site.now.0 c.args.site.now.2 c.args.made.now (map (finished c.args.state.now) (at_end x c.args.site.now.2)) (left x (conditions_in c.args.graph.now) c.args.state.now ws))
    ∙ ap (λ l. grown c.args.site.now.0 c.args.site.now.2 c.args.made.now (map (finished c.args.state.now) l ++ left x (conditions_in c.args.graph.now) c.args.state.now ws)) (sym here))
    c.put_end.ensures.made c.put_end.ensures.state

pub returns-in-Some-Turns-clause-made : goal.returns-in-Some-Turns-clause-made
returns-in-Some-Turns-clause-made c =
    let x : Context = context_for c.args.site.now in
    let ws : List Waiting = seen_stack c.args.waiting.now.items in
    let kept : List Condition = goals c.in-Some-Turns.pos what.InvariantKept c.in-Some-Turns.invariants in
    let here : conditions_in c.args.graph.now c.args.number ≡ kept
    = c.in-Some-Turns.ensures.conditions
    ∙ ap₂ (λ s f. at_node (context_in s) f.name (at_end (context_in s) f) (seen_node c.in-Some-Turns.field-0.now) (conditions_in c.args.graph.now)) c.requires.context c.requires.func
    ∙ ap (λ m. at_node x c.args.site.now.2.name (at_end x c.args.site.now.2) (seen_node m) (conditions_in c.args.graph.now)) c.in-Some-Turns.field-0-is in
    let whole : OnOk c.put_goals.result (c.put_goals.new.made ≡ grown c.args.site.now.0 c.args.site.now.2 c.args.made.now (map (finished c.args.state.now) kept))
    = subst (λ s. OnOk c.put_goals.result (c.put_goals.new.made ≡ grown s.0 s.1 c.args.made.now (map (finished c.args.state.now) kept))) c.sorts.ensures c.put_goals.ensures in
    on_ok_weaker c.put_goals.result (λ e.
    ap (λ m. grown c.args.site.now.0 c.args.site.now.2 m (left x (conditions_in c.args.graph.now) c.args.state.now ws)) e
    ∙ sym (grown_append c.args.site.now.0 c.args.site.now.2 c.args.made.now (map (finished c.args.state.now) kept) (left x (conditions_in c.args.graph.now) c.args.state.now ws))
    ∙ ap (λ l. grown c.args.site.now.0 c.args.site.now.2 c.args.made.now (map (finished c.args.state.now) l ++ left x (conditions_in c.args.graph.now) c.args.state.now ws)) (sym here))
    whole

pub returns-in-Some-Does-clause-made : goal.returns-in-Some-Does-clause-made
returns-in-Some-Does-clause-made c =
    let x : Context = context_for c.args.site.now in
    let ws : List Waiting = seen_stack c.args.waiting.now.items in
    let t : Annotated = seen_annotated c.in-Some-Does.stmt.now in
    let after : List Waiting = at_mark (length c.args.state.now) (edges x t c.in-Some-Does.first c.in-Some-Does.second) ++ ws in
    let here_is : conditions_in c.args.graph.now c.args.number
    ≡ step x c.args.site.now.2.name t (conditions_in c.args.graph.now c.in-Some-Does.first) (conditions_in c.args.graph.now c.in-Some-Does.second)
    = c.in-Some-Does.ensures.conditions
    ∙ ap₂ (λ s f. at_node (context_in s) f.name (at_end (context_in s) f) (seen_node c.in-Some-Does.field-0.now) (conditions_in c.args.graph.now)) c.requires.context c.requires.func
    ∙ ap (λ m. at_node x c.args.site.now.2.name (at_end x c.args.site.now.2) (seen_node m) (conditions_in c.args.graph.now)) c.in-Some-Does.field-0-is in
    from_three c.arrive_at_statement.result (λ made state waiting.
    (λ i. grown c.args.site.now.0 c.args.site.now.2 (made i) (left x (conditions_in c.args.graph.now) (state i) (waiting i)))
    ∙ sym (grown_append c.args.site.now.0 c.args.site.now.2 c.args.made.now (here x c.args.site.now.2.name t c.args.state.now) (left x (conditions_in c.args.graph.now) c.args.state.now after))
    ∙ ap (grown c.args.site.now.0 c.args.site.now.2 c.args.made.now)
    (sym (statement_left x c.args.site.now.2.name (conditions_in c.args.graph.now) c.args.state.now c.args.state.now t c.in-Some-Does.first c.in-Some-Does.second ws (itself c.args.state.now) c.requires.stacked)
    ∙ ap (λ l. map (finished c.args.state.now) l ++ left x (conditions_in c.args.graph.now) c.args.state.now ws) (sym here_is)))
    c.arrive_at_statement.ensures.made c.arrive_at_statement.ensures.state c.arrive_at_statement.ensures.waiting

pub returns-in-Some-Does-clause-stacked : goal.returns-in-Some-Does-clause-stacked
returns-in-Some-Does-clause-stacked c =
    let x : Context = context_for c.args.site.now in
    let t : Annotated = seen_annotated c.in-Some-Does.stmt.now in
    from_two c.arrive_at_statement.result (λ state waiting.
    subst (λ s. Stacked (length s) (seen_stack c.arrive_at_statement.new.waiting.items)) (sym state)
    (subst (λ w. Stacked (length c.args.state.now) w) (sym waiting)
    (stacked_top x c.args.site.now.2.name (conditions_in c.args.graph.now) (length c.args.state.now) (edges x t c.in-Some-Does.first c.in-Some-Does.second) (seen_stack c.args.waiting.now.items) c.requires.stacked)))
    c.arrive_at_statement.ensures.state c.arrive_at_statement.ensures.waiting
