use Rattle.std.proofs.Common.{◌≡◌, drop}
use Rattle.std.specs.List.{list_all}
use Rattle.hint_reading.specs.Demands.{may_say}
use Rattle.hint_reading.specs.Code.Parts.{funcs_in}
use Rattle.hint_reading.proofs.demands.all_may_say.Given as goal

abbrev pub invariant-loop-func : goal.invariant-loop-func
invariant-loop-func l = list_all (λ f. may_say l.names f l.kind) (funcs_in l.funcs) ≡ list_all (λ f. may_say l.names f l.kind) (funcs_in (drop l.func-index l.funcs))
