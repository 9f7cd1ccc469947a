use Rattle.std.proofs.Common.{◌≡◌, List, ◌∷◌, map, sym, ap, ap₂, ◌∙◌, rules}
use Rattle.c_lang.specs.Trees.{expression_of}
use Rattle.terms.specs.Trees.{TermTree}
use Rattle.terms.specs.declared.sequent.What.TheVariants as what
use Rattle.expression_conditions.specs.Meanings.{val}
use Rattle.expression_conditions.specs.Numbers.{numbers_in}
use Rattle.weakest_preconditions.specs.Changing.{passing}
use Rattle.weakest_preconditions.specs.Wp.{goals}
use Rattle.symbolic_state.specs.declared.step.Step.TheVariants as step
use Rattle.symbolic_state.specs.Steps.{finished}
use Rattle.wp_conditions.specs.Code.Edges.{context_for}
use Rattle.wp_conditions.specs.Code.Growing.{grown}
use Rattle.wp_conditions.proofs.EdgeLaws.{replaced}
use Rattle.wp_conditions.proofs.statements.put_asked.Goals as goal

pub returns-clause-made : goal.returns-clause-made
returns-clause-made c =
    let args : List TermTree = map (val (numbers_in c.args.site.now.0)) (map expression_of c.args.args.now) in
    let steps : c.pass.new.self ≡ step.Replaces (passing args) ∷ c.args.state.now = search rules in
    let facts : c.needs-needs.result ≡ (context_for c.args.site.now).needs c.args.callee.now = search rules in
    let whole : c.put_goals.new.made ≡ grown c.args.site.now.0 c.args.site.now.2 c.args.made.now
    (map (finished c.pass.new.self) (goals c.args.pos what.Requires c.needs-needs.result)) = search rules in
    whole ∙ ap (grown c.args.site.now.0 c.args.site.now.2 c.args.made.now)
    (ap₂ (λ s fs. map (finished s) (goals c.args.pos what.Requires fs)) steps facts
    ∙ sym (replaced c.args.state.now (passing args) (goals c.args.pos what.Requires ((context_for c.args.site.now).needs c.args.callee.now))))
