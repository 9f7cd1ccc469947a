use Rattle.std.proofs.Common.{◌≡◌, IfOk, Option, Some, None, refl, sym, ap, ◌∙◌, subst}
use Rattle.std.specs.Option.{option_map, option_copied}
use Rattle.c_lang.specs.Programs.{func_named}
use Rattle.c_lang.specs.declared.program.Func.{Func}
use Rattle.loop_invariants.specs.Clauses as spec
use Rattle.loop_invariants.specs.Loops as loops
use Rattle.loop_invariants.proofs.clauses.Allowed.in_loop.Goals as goal

pub returns-in-None : goal.returns-in-None
returns-in-None c =
    let none : None ≡ func_named c.args.names.now.funcs c.args.func.now = sym (ap option_copied c.in-None.is) ∙ c.func.ensures in
    ap (λ f. option_map (spec.site c.args.names.now) (spec.loop_place_in f c.args.number)) none

composed : (f : Func) (p : spec.Place → spec.Site) (x : Option _) → option_map (λ visible. p (spec.at_loop f visible)) x ≡ option_map p (option_map (spec.at_loop f) x)
composed f p None = refl
composed f p (Some x) = refl

pub returns-in-Some : goal.returns-in-Some
returns-in-Some c =
    let there : Some c.in-Some.func.now ≡ func_named c.args.names.now.funcs c.args.func.now = sym (ap option_copied c.in-Some.is) ∙ c.func.ensures in
    subst (λ f. IfOk c.in_loop_of.result (λ allowed. allowed ≡ option_map (spec.site c.args.names.now) (spec.loop_place_in f c.args.number))) there
    (subst (λ x. IfOk c.in_loop_of.result (λ allowed. allowed ≡ x))
    (composed c.in-Some.func.now (spec.site c.args.names.now) (loops.visible_at c.in-Some.func.now c.args.number)) c.in_loop_of.ensures)
