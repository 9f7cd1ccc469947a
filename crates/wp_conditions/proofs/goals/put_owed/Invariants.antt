use Rattle.std.proofs.Common.{◌≡◌, map, drop}
use Rattle.expression_conditions.specs.Numbers.{numbers_in}
use Rattle.expression_conditions.specs.Code.Seen.{formulas}
use Rattle.weakest_preconditions.specs.Wp.{owed_at}
use Rattle.symbolic_state.specs.Steps.{finished}
use Rattle.wp_conditions.specs.Code.Growing.{grown}
use Rattle.wp_conditions.proofs.goals.put_owed.Given as goal

-- what is left leads to the whole
abbrev pub invariant-loop-owed : goal.invariant-loop-owed
invariant-loop-owed l =
    grown l.sorts.0 l.sorts.1 l.made (map (finished l.state) (map (owed_at l.pos) (formulas (numbers_in l.sorts.0) (drop l.owed-index l.all))))
    ≡ grown l.sorts.0 l.sorts.1 l.initial.made (map (finished l.state) (map (owed_at l.pos) (formulas (numbers_in l.sorts.0) l.all)))
