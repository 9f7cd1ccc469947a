use Rattle.std.proofs.Common.{◌≡◌, drop}
use Rattle.state_xform.specs.Visible as spec
use Rattle.version_names.specs.Parts.{parts_in}
use Rattle.state_xform.proofs.visible.add_cells.Given as goal

abbrev pub invariant-loop-g : goal.invariant-loop-g
invariant-loop-g l =
    spec.with_cells (parts_in l.links) l.version l.symbols (drop l.g-index l.globals)
    ≡ spec.with_cells (parts_in l.links) l.version l.initial.symbols l.globals
