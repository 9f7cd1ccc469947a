use Rattle.std.proofs.Common.{◌≡◌, OnOk, map, subst, ap, ◌∙◌}
use Rattle.symbolic_state.specs.Steps.{finished}
use Rattle.control_flow.specs.Seen.{conditions_in}
use Rattle.wp_conditions.specs.Code.Edges.{context_for}
use Rattle.wp_conditions.specs.Code.Growing.{grown}
use Rattle.wp_conditions.proofs.FunctionLaws.{function_is}
use Rattle.wp_conditions.proofs.function.put_body.Goals as goal

pub returns : goal.returns
returns c =
    subst (λ l. OnOk c.walk.result (c.walk.new.made ≡ grown c.args.site.now.0 c.args.site.now.2 c.args.made.now l))
    (ap (λ s. map (finished s) (conditions_in c.args.graph.now c.args.graph.now.entry)) c.in_ok-state.ensures
    ∙ function_is (context_for c.args.site.now) c.args.site.now.2 (conditions_in c.args.graph.now c.args.graph.now.entry) c.requires.conditions)
    c.walk.ensures
