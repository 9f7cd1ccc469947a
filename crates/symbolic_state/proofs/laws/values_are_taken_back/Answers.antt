use Rattle.symbolic_state.specs.Code.Values.{as_numbers, as_arrays}
use Rattle.symbolic_state.proofs.ChangeLaws.{taken_back}
use Rattle.symbolic_state.proofs.laws.values_are_taken_back.Goals as goal

pub returns-clause-numbers : goal.returns-clause-numbers
returns-clause-numbers g s steps x bs has = taken_back as_numbers s steps x bs has

pub returns-clause-arrays : goal.returns-clause-arrays
returns-clause-arrays g s steps x bs has = taken_back as_arrays s steps x bs has
