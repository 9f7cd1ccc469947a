use Rattle.std.proofs.Common.{◌≡◌, ◌∷◌, map, sym, ap, ap₂, ◌∙◌, rules}
use Rattle.terms.specs.declared.sequent.What.TheVariants as what
use Rattle.loop_invariants.specs.EntryNames.{result_base}
use Rattle.weakest_preconditions.specs.Changing.{setting}
use Rattle.weakest_preconditions.specs.Wp.{goals}
use Rattle.symbolic_state.specs.declared.step.Step.TheVariants as step
use Rattle.symbolic_state.specs.Steps.{finished}
use Rattle.wp_conditions.specs.Code.Edges.{context_for}
use Rattle.wp_conditions.specs.Code.Growing.{grown}
use Rattle.wp_conditions.proofs.EdgeLaws.{replaced}
use Rattle.wp_conditions.proofs.statements.put_promised.Goals as goal

pub returns-clause-made : goal.returns-clause-made
returns-clause-made c =
    let steps : c.set_result.new.self ≡ step.Replaces (setting result_base c.args.value.now) ∷ c.args.state.now = search rules in
    let facts : c.promises-promises.result ≡ (context_for c.args.site.now).promises c.args.site.now.2.name = search rules in
    let whole : c.put_goals.new.made ≡ grown c.args.site.now.0 c.args.site.now.2 c.args.made.now
    (map (finished c.set_result.new.self) (goals c.args.pos what.Ensures c.promises-promises.result)) = search rules in
    whole ∙ ap (grown c.args.site.now.0 c.args.site.now.2 c.args.made.now)
    (ap₂ (λ s fs. map (finished s) (goals c.args.pos what.Ensures fs)) steps facts
    ∙ sym (replaced c.args.state.now (setting result_base c.args.value.now) (goals c.args.pos what.Ensures ((context_for c.args.site.now).promises c.args.site.now.2.name))))
