use Rattle.std.proofs.Common.{◌≡◌, ◌<◌, arith, sym, ap, ◌∙◌, subst, rules}
use Rattle.terms.specs.declared.fact.Fact.TheVariants as fact
use Rattle.terms.specs.Nodes.{form_size}
use Rattle.terms.specs.Sizes.{fact_size}
use Rattle.terms.specs.Replacing.{replaced_term, replaced_form, replaced_fact}
use Rattle.loop_invariants.specs.Binding.{BindsBound}
use Rattle.symbolic_state.specs.Code.Writing.{change_at}
use Rattle.symbolic_state.proofs.GivenLaws.{all_made}
use Rattle.symbolic_state.proofs.writing.finished_fact.Goals as goal

pub returns-in_default-3 : goal.returns-in_default-3
returns-in_default-3 c =
    let past : c.args.room < form_size (replaced_form (change_at c.args.state.now c.args.time) c.in-All.body) = search rules in
    let whole = all_made c.args.state.now c.args.time c.in-All.var c.in-All.lo c.in-All.hi c.in-All.body (subst BindsBound c.in-All.is c.requires) in
    subst (λ f. c.args.room < fact_size f) (whole ∙ ap (replaced_fact (change_at c.args.state.now c.args.time)) (sym c.in-All.is)) (omega (arith, past))

pub returns-in_ok-copy-in-All : goal.returns-in_ok-copy-in-All
returns-in_ok-copy-in-All c =
    let lo : c.in-Some-2.lo ≡ replaced_term (change_at c.args.state.now c.args.time) c.in-All.lo = search rules in
    let hi : c.in-Some-3.hi ≡ replaced_term (change_at c.args.state.now c.args.time) c.in-All.hi = search rules in
    let body : c.in-Some-4.body ≡ replaced_form (change_at c.args.state.now c.args.time) c.in-All.body = search rules in
    (λ i. fact.All (c.in_ok-copy-in-All.ensures i) (lo i) (hi i) (body i))
    ∙ all_made c.args.state.now c.args.time c.in-All.var c.in-All.lo c.in-All.hi c.in-All.body (subst BindsBound c.in-All.is c.requires)
    ∙ ap (replaced_fact (change_at c.args.state.now c.args.time)) (sym c.in-All.is)
