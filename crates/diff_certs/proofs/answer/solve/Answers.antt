use Rattle.std.proofs.Common.{subst}
use Rattle.diff_certs.specs.Code.Distances.{IsPass, AreStable}
use Rattle.diff_certs.proofs.WalkLaws.{cycle-refutes}
use Rattle.diff_certs.proofs.DistanceLaws.{start-known}
use Rattle.diff_certs.specs.Answer.{IsShifted}
use Rattle.diff_certs.proofs.PointLaws.{point-satisfies}
use Rattle.diff_certs.proofs.answer.solve.Goals as goal

pub loop-first-init : goal.loop-first-init
loop-first-init c = start-known c.args.rows.now c.in_ok-nodes.nodes.items c.in_ok-nodes.ensures

pub returns-in-Some-2 : goal.returns-in-Some-2
returns-in-Some-2 c =
    let found = subst (IsPass c.args.rows.now c.deref_mut.result.now c.pass.new.nodes) c.in-Some-2.is c.in_ok-cycle.ensures.pass in
    (cycle-refutes c.args.rows.now c.in-Some-2.cycle.items c.requires.inside found, found)

pub returns : goal.returns
returns c =
    let stable = subst (AreStable c.args.rows.now) c.deref.ensures.value c.in_default.ensures in
    let is = subst (λ n. IsShifted n c.in_ok-values.values.items) c.deref-2.ensures.value c.in_ok-values.ensures in
    (point-satisfies c.args.rows.now c.loop-first.nodes.items c.in_ok-values.values.items c.requires.inside stable is, is.0)
