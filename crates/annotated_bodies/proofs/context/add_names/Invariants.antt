use Rattle.std.proofs.Common.{◌≡◌, ◌++◌, drop}
use Rattle.annotated_bodies.specs.Sources.{names_in}
use Rattle.annotated_bodies.proofs.context.add_names.Given as goal

abbrev pub invariant-loop-name : goal.invariant-loop-name
invariant-loop-name l = names_in l.out.items ++ drop l.name-index l.names ≡ names_in l.fn.out.items ++ l.names
