use Rattle.std.proofs.Common.{◌≡◌, ◌++◌, drop, true}
use Rattle.c_types.specs.Code.SeenScopes.{seen_scope}
use Rattle.c_types.specs.Functions.{IsPlain}
use Rattle.c_types.specs.Programs.{resolved_funcs}
use Rattle.state_xform.specs.Refusals as spec
use Rattle.version_names.specs.Parts.{parts_in}
use Rattle.state_xform.proofs.functions.check_each.Given as goal

abbrev pub invariant-loop-f : goal.invariant-loop-f
invariant-loop-f l = record {
  plain : IsPlain (seen_scope l.scope);
  outside : l.scope.outside ≡ l.initial.scope.outside;
  xform : l.scope.xform ≡ true;
  refused : spec.refusal_of_own (parts_in l.links) l.scope.outside l.seen (drop l.f-index l.funcs)
      ≡ spec.refusal_of_own (parts_in l.links) l.initial.scope.outside l.initial.seen l.funcs;
  whole : l.all ++ resolved_funcs l.scope.outside true (drop l.f-index l.funcs) ≡ resolved_funcs l.initial.scope.outside true l.funcs;
}
