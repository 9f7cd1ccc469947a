use Rattle.std.proofs.Common.{◌≡◌, drop}
use Rattle.state_xform.specs.Visible as spec
use Rattle.version_names.specs.Parts.{parts_in}
use Rattle.state_xform.proofs.visible.add_codes.Given as goal

abbrev pub invariant-loop-f : goal.invariant-loop-f
invariant-loop-f l =
    spec.with_codes (parts_in l.links) l.version l.symbols (drop l.f-index l.funcs)
    ≡ spec.with_codes (parts_in l.links) l.version l.initial.symbols l.funcs
