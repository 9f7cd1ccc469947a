use Rattle.std.proofs.Common.{◌≡◌, drop, None}
use Rattle.c_types.specs.Code.SeenScopes.{seen_scope}
use Rattle.c_types.specs.Functions as spec
use Rattle.c_types.proofs.functions.add_params.Given as goal

abbrev pub invariant-loop-p : goal.invariant-loop-p
invariant-loop-p l = record {
  found : spec.wrong_params (seen_scope l.scope) l.number (drop l.p-index l.params) ≡ spec.wrong_params (seen_scope l.initial.scope) None l.params;
  scope : spec.with_params (seen_scope l.scope) (drop l.p-index l.params) ≡ spec.with_params (seen_scope l.initial.scope) l.params;
}
