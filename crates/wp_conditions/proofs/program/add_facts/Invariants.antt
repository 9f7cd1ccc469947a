use Rattle.std.proofs.Common.{◌≡◌, map, drop}
use Rattle.weakest_preconditions.specs.Conditions.{initial_condition}
use Rattle.symbolic_state.specs.Steps.{without_sorts}
use Rattle.wp_conditions.specs.Code.Growing.{grown_sequents}
use Rattle.wp_conditions.proofs.program.add_facts.Given as goal

-- what is left leads to the whole
abbrev pub invariant-loop-fact : goal.invariant-loop-fact
invariant-loop-fact l =
    grown_sequents l.sorts.0 l.sorts.1 l.made (map without_sorts (map (initial_condition l.sorts.0 l.sorts.1.pos) (drop l.fact-index l.facts)))
    ≡ grown_sequents l.sorts.0 l.sorts.1 l.initial.made (map without_sorts (map (initial_condition l.sorts.0 l.sorts.1.pos) l.facts))
