use Rattle.std.proofs.Common.{◌≡◌, drop, map}
use Rattle.c_lang.specs.Refusals.{client_call}
use Rattle.c_lang.specs.declared.program.Func.{Func}
use Rattle.client_specs.specs.Visible as spec
use Rattle.client_specs.proofs.visible.bar_codes.Given as goal

abbrev pub invariant-loop-f : goal.invariant-loop-f
invariant-loop-f l =
    spec.with_barred client_call l.symbols (map (λ (f : Func). f.name) (drop l.f-index l.funcs))
    ≡ spec.with_barred client_call l.initial.symbols (map (λ (f : Func). f.name) l.funcs)
