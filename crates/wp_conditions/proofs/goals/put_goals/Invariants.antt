use Rattle.std.proofs.Common.{◌≡◌, map, drop}
use Rattle.weakest_preconditions.specs.Wp.{goals}
use Rattle.symbolic_state.specs.Steps.{finished}
use Rattle.wp_conditions.specs.Code.Growing.{grown}
use Rattle.wp_conditions.proofs.goals.put_goals.Given as goal

-- what is left leads to the whole
abbrev pub invariant-loop-goal : goal.invariant-loop-goal
invariant-loop-goal l =
    grown l.sorts.0 l.sorts.1 l.made (map (finished l.state) (goals l.label.pos l.label.what (drop l.goal-index l.facts)))
    ≡ grown l.sorts.0 l.sorts.1 l.initial.made (map (finished l.state) (goals l.label.pos l.label.what l.facts))
