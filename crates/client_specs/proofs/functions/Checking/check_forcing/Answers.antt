use Rattle.std.proofs.Common.{◌∙◌, subst}
use Rattle.c_types.specs.Scopes.{Scope}
use Rattle.c_types.specs.Functions.{IsFunc}
use Rattle.version_names.specs.Parts.{parts_in}
use Rattle.client_specs.proofs.ClientLaws.{forcing_start}
use Rattle.client_specs.proofs.functions.Checking.check_forcing.Goals as goal

pub returns : goal.returns
returns c =
    let s = c.args.self.now in
    let f = c.args.f.now in
    subst (λ (from : Scope). IsFunc c.args.again from f c.check_func.result)
    (c.in_ok-scope.ensures f.gives
    ∙ forcing_start (parts_in s.links.now) s.first.now s.second.now s.program.now s.spec.now f c.in_ok-forced.forced c.requires c.in_ok-forced.ensures)
    c.check_func.ensures.checked
