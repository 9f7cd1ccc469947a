use Rattle.std.proofs.Common.{◌≡◌, ◌++◌, map, drop}
use Rattle.c_parser.specs.declared.params.Param.{Param}
use Rattle.c_parser.proofs.functions.kinds_of.Given as goal

abbrev pub invariant-loop-param : goal.invariant-loop-param
invariant-loop-param l = l.kinds ++ map (λ (y : Param). y.kind) (drop l.param-index l.params) ≡ map (λ (y : Param). y.kind) l.params
