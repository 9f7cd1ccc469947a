use Rattle.std.proofs.Common.{◌≡◌, ◌++◌, drop}
use Rattle.version_names.specs.Parts.{parts_in}
use Rattle.client_specs.specs.Code.Built as built
use Rattle.client_specs.proofs.spelled_expressions.arguments.Given as goal

abbrev pub invariant-loop-e : goal.invariant-loop-e
invariant-loop-e l =
    l.all ++ built.expressions (parts_in l.links) l.region (drop l.e-index l.args) ≡ built.expressions (parts_in l.links) l.region l.args
