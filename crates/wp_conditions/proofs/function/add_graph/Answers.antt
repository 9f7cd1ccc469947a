use Rattle.std.proofs.Common.{◌≡◌, length, min, ap, ◌∙◌, rules}
use Rattle.weakest_preconditions.specs.Conditions.{function_conditions}
use Rattle.annotated_bodies.specs.Sources.{context_in}
use Rattle.control_flow.specs.Seen.{conditions_in}
use Rattle.wp_conditions.specs.Code.Edges.{context_for}
use Rattle.wp_conditions.specs.Code.Growing.{grown}
use Rattle.wp_conditions.proofs.FunctionLaws.{count_is, many, few}
use Rattle.wp_conditions.proofs.function.add_graph.Goals as goal

pub returns-then-count-gt-CONDITION_LIMIT : goal.returns-then-count-gt-CONDITION_LIMIT
returns-then-count-gt-CONDITION_LIMIT c =
    let whole : length (conditions_in c.args.graph.now c.args.graph.now.entry) ≡ length (function_conditions (context_in c.args.context.now) c.args.func.now)
    = count_is (context_in c.args.context.now) c.args.func.now (conditions_in c.args.graph.now c.args.graph.now.entry) c.requires.conditions in
    let counted : c.count.result ≡ min (length (conditions_in c.args.graph.now c.args.graph.now.entry)) 18446744073709551615 = search rules in
    many c.count.result (length (function_conditions (context_in c.args.context.now) c.args.func.now))
    (counted ∙ ap (λ n. min n 18446744073709551615) whole) (search rules)

pub returns : goal.returns
returns c =
    let whole : length (conditions_in c.args.graph.now c.args.graph.now.entry) ≡ length (function_conditions (context_in c.args.context.now) c.args.func.now)
    = count_is (context_in c.args.context.now) c.args.func.now (conditions_in c.args.graph.now c.args.graph.now.entry) c.requires.conditions in
    let counted : c.count.result ≡ min (length (conditions_in c.args.graph.now c.args.graph.now.entry)) 18446744073709551615 = search rules in (
      few c.count.result (length (function_conditions (context_in c.args.context.now) c.args.func.now))
          (counted ∙ ap (λ n. min n 18446744073709551615) whole) (search rules),
      c.in_ok-put_body.ensures ∙ ap (λ s. grown s.0 s.2 c.args.made.now (function_conditions (context_for s) s.2)) c.in_ok-site.ensures,
    )
