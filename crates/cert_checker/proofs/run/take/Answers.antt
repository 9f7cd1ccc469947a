use Rattle.std.proofs.Common.{reverse, ◌∷◌, ◌<◌, OnOk, subst, sym}
use Rattle.cert_checker.specs.Code.Steps.{work, ComesTo}
use Rattle.cert_checker.proofs.GoalLaws.{term-taken, operation-taken}
use Rattle.cert_checker.proofs.RunLaws.{opened-smaller, operation-less, on-ok}
use Rattle.cert_checker.proofs.run.take.Goals as goal

pub returns-in-Term-clause-goes_on : goal.returns-in-Term-clause-goes_on
returns-in-Term-clause-goes_on c = λ g h. term-taken g c.in-Term.term (reverse c.args.steps.now.items) (reverse c.open.new.steps.items) (reverse c.args.rows.now.items) (reverse c.open.new.rows.items)
    c.args.atoms.now.items c.open.new.atoms.items c.open.result
    (subst (λ s. ComesTo g (s ∷ reverse c.args.steps.now.items) (reverse c.args.rows.now.items) c.args.atoms.now.items) c.in-Term.is h) c.open.ensures.opened

pub returns-in-Term-clause-smaller : goal.returns-in-Term-clause-smaller
returns-in-Term-clause-smaller c = subst (λ s. OnOk c.open.result (work (reverse c.open.new.steps.items) < work (s ∷ reverse c.args.steps.now.items))) (sym c.in-Term.is)
    (opened-smaller c.in-Term.term (reverse c.args.steps.now.items) (reverse c.open.new.steps.items) (reverse c.args.rows.now.items) (reverse c.open.new.rows.items)
    c.args.atoms.now.items c.open.new.atoms.items c.open.result c.open.ensures.opened)

pub returns-in-Apply-clause-goes_on : goal.returns-in-Apply-clause-goes_on
returns-in-Apply-clause-goes_on c = λ g h. operation-taken g c.in-Apply.operation (reverse c.args.steps.now.items) (reverse c.args.rows.now.items) c.apply.new.rows.items c.args.atoms.now.items c.apply.result
    (subst (λ s. ComesTo g (s ∷ reverse c.args.steps.now.items) (reverse c.args.rows.now.items) c.args.atoms.now.items) c.in-Apply.is h) c.apply.ensures

pub returns-in-Apply-clause-smaller : goal.returns-in-Apply-clause-smaller
returns-in-Apply-clause-smaller c = subst (λ s. OnOk c.apply.result (work (reverse c.args.steps.now.items) < work (s ∷ reverse c.args.steps.now.items))) (sym c.in-Apply.is)
    (on-ok c.apply.result (operation-less c.in-Apply.operation (reverse c.args.steps.now.items)))
