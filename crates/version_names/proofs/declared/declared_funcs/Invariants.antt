use Rattle.std.proofs.Common.{◌≡◌, ◌++◌, map, drop}
use Rattle.version_names.specs.Code.Declarations as spec
use Rattle.version_names.proofs.declared.declared_funcs.Given as goal

abbrev pub invariant-loop-func : goal.invariant-loop-func
invariant-loop-func l = l.all.items ++ map spec.declared_func (drop l.func-index l.funcs) ≡ map spec.declared_func l.funcs
