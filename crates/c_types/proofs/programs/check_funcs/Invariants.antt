use Rattle.std.proofs.Common.{◌≡◌, ◌++◌, drop}
use Rattle.c_types.specs.Code.SeenScopes.{seen_scope}
use Rattle.c_types.specs.Functions.{IsPlain}
use Rattle.c_types.specs.Programs as spec
use Rattle.c_types.proofs.programs.check_funcs.Given as goal

abbrev pub invariant-loop-f : goal.invariant-loop-f
invariant-loop-f l = record {
  plain : IsPlain (seen_scope l.scope);
  outside : l.scope.outside ≡ l.initial.scope.outside;
  xform : l.scope.xform ≡ l.initial.scope.xform;
  first : spec.refusal_of_funcs l.scope.outside l.scope.xform l.seen (drop l.f-index l.funcs)
      ≡ spec.refusal_of_funcs l.initial.scope.outside l.initial.scope.xform l.initial.seen l.funcs;
  whole : l.all ++ spec.resolved_funcs l.scope.outside l.scope.xform (drop l.f-index l.funcs)
      ≡ spec.resolved_funcs l.initial.scope.outside l.initial.scope.xform l.funcs;
}
