use Rattle.std.proofs.Common.{◌≡◌, OnOk, map, sym, subst, ◌∙◌, rules}
use Rattle.terms.specs.declared.fact.Fact.TheVariants as fact
use Rattle.expression_conditions.specs.Numbers.{numbers_in}
use Rattle.expression_conditions.specs.Code.Due.{given_form, goal_owed}
use Rattle.expression_conditions.specs.Code.Seen.{seen_given, seen_goal}
use Rattle.symbolic_state.specs.Steps.{finished}
use Rattle.wp_conditions.specs.Code.Growing.{pushed}
use Rattle.expression_conditions.proofs.DueLaws.{what-is}
use Rattle.wp_conditions.proofs.goals.put_one.Goals as goal

pub returns : goal.returns
returns c =
    let hyps : c.deref.result.now ≡ map (given_form (numbers_in c.args.sorts.now.0)) (map seen_given c.args.owed.now.given) = search rules in
    let form : c.in_ok-form.field-0 ≡ (goal_owed (numbers_in c.args.sorts.now.0) (seen_goal c.args.owed.now.goal)).goal = search rules in
    let label : c.what-what.result ≡ (goal_owed (numbers_in c.args.sorts.now.0) (seen_goal c.args.owed.now.goal)).what
    = c.what-what.ensures ∙ sym (what-is (numbers_in c.args.sorts.now.0) (seen_goal c.args.owed.now.goal)) in
    subst (λ s. OnOk c.add.result (c.add.new.self ≡ pushed c.args.sorts.now.0 c.args.sorts.now.1 c.args.made.now (finished c.args.state.now s)))
    (λ i. record { hyps = map fact.Plain (hyps i); goal = fact.Plain (form i); label = record { pos = c.args.pos; what = label i } })
    c.add.ensures
