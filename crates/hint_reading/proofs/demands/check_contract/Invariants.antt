use Rattle.std.proofs.Common.{◌≡◌, drop}
use Rattle.hint_reading.specs.Demands.{first_unmet}
use Rattle.hint_reading.specs.Code.Parts.{funcs_in, contract_demands}
use Rattle.hint_reading.proofs.demands.check_contract.Given as goal

abbrev pub invariant-loop-clause : goal.invariant-loop-clause
invariant-loop-clause l = first_unmet (contract_demands l.names (funcs_in l.funcs) l.clauses)
    ≡ first_unmet (contract_demands l.names (funcs_in l.funcs) (drop l.clause-index l.clauses))
