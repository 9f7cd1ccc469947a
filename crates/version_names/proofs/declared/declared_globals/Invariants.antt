use Rattle.std.proofs.Common.{◌≡◌, ◌++◌, map, drop}
use Rattle.version_names.specs.Code.Declarations as spec
use Rattle.version_names.proofs.declared.declared_globals.Given as goal

abbrev pub invariant-loop-global : goal.invariant-loop-global
invariant-loop-global l = l.all.items ++ map spec.declared_global (drop l.global-index l.globals) ≡ map spec.declared_global l.globals
