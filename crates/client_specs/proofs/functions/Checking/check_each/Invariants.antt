use Rattle.std.proofs.Common.{◌≡◌, ◌++◌, Bool, None, drop}
use Rattle.c_types.specs.Code.SeenScopes.{seen_scope}
use Rattle.c_types.specs.Functions.{start_of}
use Rattle.client_specs.specs.Refusals as spec
use Rattle.client_specs.specs.Starts.{begins}
use Rattle.version_names.specs.Parts.{parts_in}
use Rattle.client_specs.proofs.functions.Checking.check_each.Given as goal

abbrev pub invariant-loop-f : goal.invariant-loop-f
invariant-loop-f l =
    let c = l.self in
    let parts = parts_in c.links.now in
    record {
      start : (gives : Bool) → start_of (seen_scope l.scope) gives ≡ begins parts c.first.now c.second.now c.program.now c.spec.now None gives;
      refused : spec.refusal_of_own parts c.first.now c.second.now c.program.now c.spec.now l.seen (drop l.f-index l.funcs)
          ≡ spec.refusal_of_own parts c.first.now c.second.now c.program.now c.spec.now l.initial.seen l.funcs;
      whole : l.all ++ spec.resolved_own parts c.first.now c.second.now c.program.now c.spec.now (drop l.f-index l.funcs)
          ≡ spec.resolved_own parts c.first.now c.second.now c.program.now c.spec.now l.funcs;
    }
