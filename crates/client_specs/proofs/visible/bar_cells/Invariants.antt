use Rattle.std.proofs.Common.{◌≡◌, drop, map}
use Rattle.c_lang.specs.Refusals.{client_global}
use Rattle.c_lang.specs.declared.program.GlobalVar.{GlobalVar}
use Rattle.client_specs.specs.Visible as spec
use Rattle.client_specs.proofs.visible.bar_cells.Given as goal

abbrev pub invariant-loop-g : goal.invariant-loop-g
invariant-loop-g l =
    spec.with_barred client_global l.symbols (map (λ (g : GlobalVar). g.name) (drop l.g-index l.globals))
    ≡ spec.with_barred client_global l.initial.symbols (map (λ (g : GlobalVar). g.name) l.globals)
