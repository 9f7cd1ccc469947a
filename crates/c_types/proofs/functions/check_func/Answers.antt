use Rattle.std.proofs.Common.{◌∙◌, ap}
use Rattle.c_types.specs.Bodies.{body_of}
use Rattle.c_types.specs.Code.SeenScopes.{seen_scope}
use Rattle.c_types.specs.Scopes.{Scope}
use Rattle.c_types.specs.Functions.{start_of}
use Rattle.c_types.proofs.FunctionLaws.{params_start, params_forced, body_stays}
use Rattle.c_types.proofs.functions.check_func.Goals as goal

pub returns-clause-stays : goal.returns-clause-stays
returns-clause-stays c h gives =
    let head = seen_scope c.add_head.new.scope in
    let start = seen_scope c.enter.new.scope in
    let forced = ap (λ (s : Scope). s.forced) c.in_ok-number.ensures.scope ∙ params_forced start c.args.f.now.params
    ∙ ap (λ (s : Scope). s.forced) c.enter.ensures ∙ h in
    ap (λ (s : Scope). start_of s gives) c.in_ok-body.ensures.scope
    ∙ body_stays head (body_of c.as_slice-2.result.now) gives forced
    ∙ ap (λ (s : Scope). start_of s gives) c.in_ok-number.ensures.scope
    ∙ params_start start c.args.f.now.params gives
    ∙ ap (λ (s : Scope). start_of s gives) c.enter.ensures
