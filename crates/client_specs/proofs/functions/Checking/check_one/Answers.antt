use Rattle.std.proofs.Common.{◌≡◌, ◌∙◌, Bool, false, sym, ap, None, subst}
use Rattle.c_types.proofs.Combined.{on_ok}
use Rattle.c_types.specs.Code.SeenScopes.{seen_scope}
use Rattle.c_types.specs.Scopes.{Scope}
use Rattle.c_types.specs.Functions.{IsFunc, start_of}
use Rattle.version_names.specs.Parts.{parts_in}
use Rattle.client_specs.specs.Starts.{begins}
use Rattle.client_specs.proofs.ClientLaws.{quiet_start}
use Rattle.client_specs.proofs.functions.Checking.check_one.Goals as goal

pub returns-else-is_forcing-clause-checked : goal.returns-else-is_forcing-clause-checked
returns-else-is_forcing-clause-checked c =
    let s = c.args.self.now in
    let f = c.args.f.now in
    subst (λ (from : Scope). IsFunc c.args.again from f c.check_func.result)
    (c.requires f.gives
    ∙ quiet_start (parts_in s.links.now) s.first.now s.second.now s.program.now s.spec.now f (sym c.is_forcing.ensures ∙ c.if-is_forcing.false))
    c.check_func.ensures.checked

pub returns-else-is_forcing-clause-scope : goal.returns-else-is_forcing-clause-scope
returns-else-is_forcing-clause-scope c =
    let s = c.args.self.now in
    on_ok c.check_func.result _
    ((gives : Bool) → start_of (seen_scope c.check_func.new.scope) gives ≡ begins (parts_in s.links.now) s.first.now s.second.now s.program.now s.spec.now None gives)
    (λ stays gives. stays (ap (λ (t : Scope). t.forced) (c.requires false)) gives ∙ c.requires gives)
    c.check_func.ensures.stays
