use Rattle.std.proofs.Common.{◌≡◌, ◌∙◌, false, ap, subst}
use Rattle.c_types.proofs.Combined.{on_ok}
use Rattle.c_types.specs.Code.SeenScopes.{seen_scope}
use Rattle.c_types.specs.Scopes.{Scope}
use Rattle.c_types.specs.Functions.{IsFunc, IsPlain}
use Rattle.c_types.proofs.FunctionLaws.{plain_start}
use Rattle.c_types.proofs.functions.check_plain_func.Goals as goal

pub returns-clause-checked : goal.returns-clause-checked
returns-clause-checked c =
    subst (λ (s : Scope). IsFunc c.args.again s c.args.f.now c.check_func.result) (plain_start (seen_scope c.args.scope.now) c.args.f.now.gives c.requires)
    c.check_func.ensures.checked

pub returns-clause-plain : goal.returns-clause-plain
returns-clause-plain c =
    on_ok c.check_func.result _ (IsPlain (seen_scope c.check_func.new.scope))
    (λ stays. (
      ap (λ (s : Scope). s.forced) (stays c.requires.0 false) ∙ c.requires.0,
      ap (λ (s : Scope). s.picks) (stays c.requires.0 false) ∙ c.requires.1,
    ))
    c.check_func.ensures.stays

pub returns-clause-outside : goal.returns-clause-outside
returns-clause-outside c =
    on_ok c.check_func.result _ (c.check_func.new.scope.outside ≡ c.args.scope.now.outside)
    (λ stays. ap (λ (s : Scope). s.outside) (stays c.requires.0 false)) c.check_func.ensures.stays

pub returns-clause-xform : goal.returns-clause-xform
returns-clause-xform c =
    on_ok c.check_func.result _ (c.check_func.new.scope.xform ≡ c.args.scope.now.xform)
    (λ stays. ap (λ (s : Scope). s.xform) (stays c.requires.0 false)) c.check_func.ensures.stays
