use Rattle.std.proofs.Common.{◌≡◌, length, min, ap, ◌∙◌, rules}
use Rattle.annotated_bodies.specs.Sources.{context_in}
use Rattle.control_flow.specs.Seen.{conditions_in}
use Rattle.wp_conditions.proofs.FunctionLaws.{count_is}
use Rattle.wp_conditions.proofs.program.count_in.Goals as goal

pub returns : goal.returns
returns c =
    let counted : c.count.result ≡ min (length (conditions_in c.args.graph.now c.args.graph.now.entry)) 18446744073709551615 = search rules in
    counted ∙ ap (λ n. min n 18446744073709551615)
    (count_is (context_in c.args.context.now) c.args.func.now (conditions_in c.args.graph.now c.args.graph.now.entry) c.requires)
