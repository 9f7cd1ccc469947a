use Rattle.std.proofs.Common.{◌≡◌, sym, ap, ◌∙◌, arith}
use Rattle.loop_invariants.specs.Code.Seeking.{seen_sought, visible_in}
use Rattle.loop_invariants.proofs.SeekingLaws.{none_at_zero, visible_above}
use Rattle.loop_invariants.proofs.loops.visible_at.Goals as goal

pub returns-in-None : goal.returns-in-None
returns-in-None c =
    let none : c.args.number ≡ 0 = omega (arith) in
    none_at_zero c.args.func.now c.args.number none

pub returns-in-Found : goal.returns-in-Found
returns-in-Found c = sym (ap (λ s. visible_in (seen_sought s)) c.in-Found.is) ∙ ap visible_in c.in_ok-names-in-Some.ensures
    ∙ visible_above c.args.func.now c.args.number c.in-Some.before c.in-Some.ensures.0 c.in-Some.ensures.1

pub returns-in-Left : goal.returns-in-Left
returns-in-Left c = sym (ap (λ s. visible_in (seen_sought s)) c.in-Left.is) ∙ ap visible_in c.in_ok-names-in-Some.ensures
    ∙ visible_above c.args.func.now c.args.number c.in-Some.before c.in-Some.ensures.0 c.in-Some.ensures.1
