use Rattle.std.proofs.Common.{◌≡◌, drop}
use Rattle.c_lang.specs.Names.{Bytes}
use Rattle.name_tables.specs.Tables.{found}
use Rattle.weakest_preconditions.specs.Sorts.{or_else, parameter_kind}
use Rattle.condition_sorts.proofs.kinds.add_parameters.Given as goal

-- what is found so far and what is left give the whole
abbrev pub invariant-loop-param : goal.invariant-loop-param
invariant-loop-param l = (x : Bytes) →
    or_else (found l.table x) (parameter_kind x (drop l.param-index l.params)) ≡ or_else (found l.initial.table x) (parameter_kind x l.params)
