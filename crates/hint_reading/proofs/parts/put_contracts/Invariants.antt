use Rattle.std.proofs.Common.{◌≡◌, ◌++◌, map, take}
use Rattle.c_lang.specs.declared.program.Func.{Func}
use Rattle.hint_reading.specs.Meaning.{contract_in}
use Rattle.hint_reading.specs.Code.Parts.{funcs_in}
use Rattle.hint_reading.proofs.parts.put_contracts.Given as goal

abbrev pub invariant-loop-func : goal.invariant-loop-func
invariant-loop-func l = l.contracts ≡ l.initial.contracts ++ map (λ (f : Func). (f.name, contract_in l.clauses)) (funcs_in (take l.func-index l.funcs))
