use Rattle.std.proofs.Common.{reverse, [], subst}
use Rattle.cert_checker.specs.Code.Steps.{ComesTo}
use Rattle.cert_checker.proofs.RunLaws.{popped, rows-fit, has-operands, fails-same}
use Rattle.cert_checker.proofs.run.run.Goals as goal

pub take-requires-clause-operands : goal.take-requires-clause-operands
take-requires-clause-operands c = has-operands c.requires.goal c.in-Some.next (reverse c.pop.new.self.items) c.loop-next.rows.items c.loop-next.atoms.items
    (subst (λ l. ComesTo c.requires.goal l (reverse c.loop-next.rows.items) c.loop-next.atoms.items) (popped c.loop-next.steps.items c.pop.new.self.items c.in-Some.next c.in-Some.ensures.items)
    (c.loop-next.invariant.0 c.requires.goal c.requires.comes))

pub take-requires-clause-fit : goal.take-requires-clause-fit
take-requires-clause-fit c = rows-fit c.requires.goal (reverse c.loop-next.steps.items) c.loop-next.rows.items c.loop-next.atoms.items (c.loop-next.invariant.0 c.requires.goal c.requires.comes)

pub returns-in-Err-clause-goes_on : goal.returns-in-Err-clause-goes_on
returns-in-Err-clause-goes_on c = λ g h. fails-same g c.in-Err.fail (reverse c.take.new.steps.items) [] (reverse c.take.new.rows.items) (reverse c.take.new.rows.items) c.take.new.atoms.items c.take.new.atoms.items
    (c.in-Err.ensures.goes_on g (subst (λ l. ComesTo g l (reverse c.loop-next.rows.items) c.loop-next.atoms.items) (popped c.loop-next.steps.items c.pop.new.self.items c.in-Some.next c.in-Some.ensures.items)
    (c.loop-next.invariant.0 g h)))
