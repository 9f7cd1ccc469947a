use Rattle.std.proofs.Common.{◌≡◌, OnOk, subst, ap, ap₂, ◌∙◌}
use Rattle.weakest_preconditions.specs.Conditions.{initial_condition}
use Rattle.symbolic_state.specs.Steps.{without_sorts}
use Rattle.wp_conditions.specs.Code.Growing.{pushed_sequent}
use Rattle.wp_conditions.proofs.program.add_fact.Goals as goal

pub returns : goal.returns
returns c =
    subst (λ q. OnOk c.add_sequent.result (c.add_sequent.new.self ≡ pushed_sequent c.args.sorts.now.0 c.args.sorts.now.1 c.args.made.now q))
    (c.in_ok-sequent.ensures ∙ ap₂ (λ p q. without_sorts (initial_condition p q c.args.fact.now)) c.names.ensures (ap (λ f. f.pos) c.func.ensures))
    c.add_sequent.ensures
