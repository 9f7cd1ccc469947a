use Rattle.std.proofs.Common.{◌≡◌, ◌+◌, ◌≤◌, List, map, length, min, subst, ap₂, ◌∙◌, rules}
use Rattle.terms.specs.declared.fact.Fact.{Fact}
use Rattle.weakest_preconditions.specs.Conditions.{main_name, function_conditions, initial_condition}
use Rattle.annotated_bodies.specs.Sources.{context_in}
use Rattle.symbolic_state.specs.Steps.{without_sorts}
use Rattle.wp_conditions.specs.Code.Growing.{grown_sequents}
use Rattle.wp_conditions.proofs.WholeLaws.{start_made, sum_small}
use Rattle.wp_conditions.proofs.program.add_start.Goals as goal

pub returns : goal.returns
returns c =
    let facts : c.as_slice.result.now ≡ (context_in c.args.context.now).needs main_name = search rules in
    let needs : c.needs-needs.result ≡ (context_in c.args.context.now).needs main_name = search rules in
    let sum : min (c.in_ok-count.count + length c.as_slice.result.now) 18446744073709551615 ≤ 4096 = search rules in
    let whole : c.add_facts.new.made ≡ grown_sequents c.in_ok-sorts.sorts.0 c.in_ok-sorts.sorts.1 c.args.made.now
    (map without_sorts (map (initial_condition c.in_ok-sorts.sorts.0 c.in_ok-sorts.sorts.1.pos) c.needs-needs.result)) = search rules in
    let sorts : c.in_ok-sorts.sorts ≡ (c.args.context.now.0, c.args.main.now) = search rules in
    start_made c.args.context.now c.args.main.now c.args.made.now c.add_facts.new.made c.requires
    (subst (λ (l : List Fact). length (function_conditions (context_in c.args.context.now) c.args.main.now) + length l ≤ 4096) facts (sum_small c.in_ok-count.count (length c.as_slice.result.now) (length (function_conditions (context_in c.args.context.now) c.args.main.now)) c.in_ok-count.ensures sum))
    (whole ∙ ap₂ (λ s l. grown_sequents s.0 s.1 c.args.made.now (map without_sorts (map (initial_condition s.0 s.1.pos) l))) sorts needs)
    c.is_full.result c.is_full.ensures
