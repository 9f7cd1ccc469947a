use Rattle.std.proofs.Common.{rules, ◌≡◌, true, sym, subst}
use Rattle.loop_invariants.specs.Hints.{HintsBind}
use Rattle.loop_invariants.specs.Binding.{BindsBound}
use Rattle.loop_invariants.specs.Adding as spec
use Rattle.loop_invariants.specs.Fitting.{Fit}
use Rattle.loop_invariants.proofs.AddedFits.{added_fits}
use Rattle.loop_invariants.proofs.AddingLaws.{added_binds, still_bind}
use Rattle.loop_invariants.proofs.hints.Hints.add.Goals as goal

pub invariant_of-self-2 : goal.invariant_of-self-2
invariant_of-self-2 c =
    let may : spec.may_be_added c.args.program.now.program c.args.func.now c.args.number c.args.fact ≡ true = search rules in
    let binds : BindsBound c.args.fact = added_binds c.args.program.now.program c.args.func.now c.args.number c.args.fact may in
    let same : c.put_invariant.new.loops ≡ spec.with_invariant c.self.inside.loops c.args.func.now c.args.number c.args.fact = search rules in
    subst (λ ls. HintsBind (record { contracts = c.self.inside.contracts; loops = ls })) (sym same)
    (still_bind (record { contracts = c.self.inside.contracts; loops = c.self.inside.loops }) c.args.func.now c.args.number c.args.fact c.self.invariant binds)

pub returns-clause-fit : goal.returns-clause-fit
returns-clause-fit c fit =
    let may : spec.may_be_added c.args.program.now.program c.args.func.now c.args.number c.args.fact ≡ true = search rules in
    let same : c.put_invariant.new.loops ≡ spec.with_invariant c.self.inside.loops c.args.func.now c.args.number c.args.fact = search rules in
    let before : Fit c.args.program.now.program (record { contracts = c.self.inside.contracts; loops = c.self.inside.loops })
    = subst (Fit c.args.program.now.program) (sym c.self.view_is) fit in
    subst (λ ls. Fit c.args.program.now.program (record { contracts = c.self.inside.contracts; loops = ls })) (sym same)
    (added_fits c.args.program.now.program c.args.func.now c.args.number c.args.fact may (record { contracts = c.self.inside.contracts; loops = c.self.inside.loops }) before)
