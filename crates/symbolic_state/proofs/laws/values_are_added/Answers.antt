use Rattle.symbolic_state.specs.Code.Values.{as_numbers, as_arrays}
use Rattle.symbolic_state.proofs.ChangeLaws.{value_added}
use Rattle.symbolic_state.proofs.laws.values_are_added.Goals as goal

pub returns-clause-numbers : goal.returns-clause-numbers
returns-clause-numbers g s steps x bs b t = value_added as_numbers s steps x bs b t

pub returns-clause-arrays : goal.returns-clause-arrays
returns-clause-arrays g s steps x bs b a = value_added as_arrays s steps x bs b a
