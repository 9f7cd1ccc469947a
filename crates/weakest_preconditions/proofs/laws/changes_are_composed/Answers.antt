use Rattle.weakest_preconditions.proofs.Composed.{fact_twice, change_keeps}
use Rattle.weakest_preconditions.proofs.laws.changes_are_composed.Goals as goal

pub returns-clause-twice : goal.returns-clause-twice
returns-clause-twice c = λ a b f ka kb binds. fact_twice a b ka kb f binds

pub returns-clause-kept : goal.returns-clause-kept
returns-clause-kept c = change_keeps
