use Rattle.std.proofs.Common.{◌≡◌, OnOk, ◌∷◌, ◌++◌, map, subst, ap₂, ◌∙◌, rules}
use Rattle.c_lang.specs.Trees.{expression_of}
use Rattle.terms.specs.Replacing.{replaced_fact}
use Rattle.expression_conditions.specs.Meanings.{val}
use Rattle.expression_conditions.specs.Numbers.{numbers_in}
use Rattle.weakest_preconditions.specs.Changing.{change, renewing, returning}
use Rattle.annotated_bodies.specs.Sources.{context_in}
use Rattle.symbolic_state.specs.declared.step.Step.TheVariants as step
use Rattle.symbolic_state.specs.Steps.{assumed}
use Rattle.wp_conditions.proofs.steps.call.Goals as goal

pub returns : goal.returns
returns c =
    let fresh : c.deref-2.result.now ≡ c.args.outcome.now ++ c.args.cells.now = search rules in
    let args : c.deref.result.now ≡ map (val (numbers_in c.args.context.now.0)) (map expression_of c.args.args.now) = search rules in
    let promises : c.as_slice.result.now ≡ (context_in c.args.context.now).promises c.args.callee.now = search rules in
    let before : c.promise.new.self ≡ assumed (map (replaced_fact (change (returning (context_in c.args.context.now).globals c.deref.result.now c.args.outcome.now c.args.cells.now))) c.as_slice.result.now) c.args.state.now
    = search rules in
    subst (λ s. OnOk c.renew.result (c.renew.new.self ≡ s))
    (λ i. step.Replaces (renewing (fresh i)) ∷ (before ∙ ap₂ (λ ts fs. assumed (map (replaced_fact (change (returning (context_in c.args.context.now).globals ts c.args.outcome.now c.args.cells.now))) fs) c.args.state.now) args promises) i)
    c.renew.ensures
