use Rattle.std.proofs.Common.{◌≡◌, ◌<◌, ◌++◌, true, false, length, ap, ◌∙◌, subst, arith, rules}
use Rattle.terms.specs.Sizes.{fact_size, facts_size}
use Rattle.terms.specs.Replacing.{replaced_fact}
use Rattle.symbolic_state.specs.Code.Joined.{given_of}
use Rattle.symbolic_state.specs.Code.Room.{IsPut}
use Rattle.symbolic_state.specs.Code.Writing.{change_at, finished_forms}
use Rattle.symbolic_state.proofs.FinishLaws.{is_finished, facts_past, goal_past}
use Rattle.symbolic_state.proofs.state.SymbolicState.whole.Goals as goal

pub returns-then-not-branch : goal.returns-then-not-branch
returns-then-not-branch c =
    let no : c.in_ok-put_hyps.field-0 ≡ false = search rules in
    let past : c.new-gathered.result.left < facts_size (given_of c.args.self.now ++ finished_forms (change_at c.args.self.now (length c.args.self.now)) c.args.hyps.now) =
    subst (IsPut c.new-gathered.result c.put_hyps.new.gathered (given_of c.args.self.now ++ finished_forms (change_at c.args.self.now (length c.args.self.now)) c.args.hyps.now)) no c.in_ok-put_hyps.ensures in
    facts_past c.args.self.now c.args.hyps.now c.args.goal.now c.args.label c.gives_bound.ensures c.requires c.args.room (omega (arith, past, c.new-gathered.ensures.left))

pub returns-in_default : goal.returns-in_default
returns-in_default c =
    let done : c.in_ok-put_hyps.field-0 ≡ true = search rules in
    let put = subst (IsPut c.new-gathered.result c.put_hyps.new.gathered (given_of c.args.self.now ++ finished_forms (change_at c.args.self.now (length c.args.self.now)) c.args.hyps.now)) done c.in_ok-put_hyps.ensures in
    let past : c.put_hyps.new.gathered.left < fact_size (replaced_fact (change_at c.args.self.now c.mark.result) c.args.goal.now) = search rules in
    goal_past c.args.self.now c.args.hyps.now c.args.goal.now c.args.label c.gives_bound.ensures c.requires c.args.room c.put_hyps.new.gathered.left
    (omega (arith, put.1, c.new-gathered.ensures.left))
    (subst (λ n. c.put_hyps.new.gathered.left < fact_size (replaced_fact (change_at c.args.self.now n) c.args.goal.now)) c.mark.ensures past)

pub returns : goal.returns
returns c =
    let done : c.in_ok-put_hyps.field-0 ≡ true = search rules in
    let put = subst (IsPut c.new-gathered.result c.put_hyps.new.gathered (given_of c.args.self.now ++ finished_forms (change_at c.args.self.now (length c.args.self.now)) c.args.hyps.now)) done c.in_ok-put_hyps.ensures in
    let facts : c.from_vec.result ≡ given_of c.args.self.now ++ finished_forms (change_at c.args.self.now (length c.args.self.now)) c.args.hyps.now =
    c.from_vec.ensures ∙ c.into_facts.ensures ∙ put.0 ∙ ap (λ l. l ++ (given_of c.args.self.now ++ finished_forms (change_at c.args.self.now (length c.args.self.now)) c.args.hyps.now)) c.new-gathered.ensures.facts in
    let made : c.in-Some.goal ≡ replaced_fact (change_at c.args.self.now c.mark.result) c.args.goal.now = search rules in
    (λ i. record { sorts = c.new.ensures i; hyps = c.from_vec.result; goal = c.in-Some.goal; label = c.args.label })
    ∙ is_finished c.args.self.now c.args.hyps.now c.args.goal.now c.args.label c.from_vec.result c.in-Some.goal
    c.gives_bound.ensures c.requires facts
    (made ∙ ap (λ n. replaced_fact (change_at c.args.self.now n) c.args.goal.now) c.mark.ensures)
