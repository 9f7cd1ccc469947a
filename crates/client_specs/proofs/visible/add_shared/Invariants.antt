use Rattle.std.proofs.Common.{◌≡◌, drop}
use Rattle.client_specs.specs.Visible as spec
use Rattle.version_names.specs.Parts.{parts_in}
use Rattle.client_specs.proofs.visible.add_shared.Given as goal

abbrev pub invariant-loop-f : goal.invariant-loop-f
invariant-loop-f l =
    spec.with_shared (parts_in l.links) l.symbols (drop l.f-index l.funcs) ≡ spec.with_shared (parts_in l.links) l.initial.symbols l.funcs
