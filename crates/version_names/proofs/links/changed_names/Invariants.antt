use Rattle.std.proofs.Common.{◌≡◌, ◌++◌, drop}
use Rattle.version_names.specs.Parts as spec
use Rattle.version_names.proofs.links.changed_names.Given as goal

abbrev pub invariant-loop-global : goal.invariant-loop-global
invariant-loop-global l = l.names.items ++ spec.changed_by l.cells (drop l.global-index l.globals) ≡ spec.changed_by l.cells l.globals
