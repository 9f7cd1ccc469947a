use Rattle.std.proofs.Common.{sym, ◌∙◌}
use Rattle.initial_conditions.proofs.ElementLaws.{goes_on, stops}
use Rattle.initial_conditions.proofs.elements.without_trailing_zeros.Goals as goal

pub returns-then-not-is_zero : goal.returns-then-not-is_zero
returns-then-not-is_zero c =
    stops c.loop-last.kept.now c.in-Some.rest.now c.args.elements.now c.in-Some.last.now c.in-Some.ensures.cases.0
    (sym c.is_zero.ensures ∙ c.if-not-is_zero.true) c.loop-last.invariant

pub loop-last-preserved : goal.loop-last-preserved
loop-last-preserved c =
    goes_on c.loop-last.kept.now c.in-Some.rest.now c.args.elements.now c.in-Some.last.now c.in-Some.ensures.cases.0
    (sym c.is_zero.ensures ∙ c.if-not-is_zero.false) c.loop-last.invariant
