use Rattle.std.proofs.Common.{pos, ◌<ℤ◌, refl, sym, subst, take, take_all, of_z, to_z}
use Rattle.std.specs.Int.{w128}
use Rattle.std.proofs.lemmas.Int.{to_z-of_z}
use Rattle.linear_certs.specs.Answers.{coordinate}
use Rattle.linear_certs.specs.Code.Limits.{IsBest, IsPast}
use Rattle.linear_certs.proofs.LimitLaws.{best-more, past-whole}
use Rattle.linear_certs.proofs.limit.tightest.Goals as goal

pub returns-in-None-clause-past : goal.returns-in-None-clause-past
returns-in-None-clause-past c = λ _.
    let over_is = to_z-of_z w128 c.args.den c.ranges.den in
    let i = c.loop-entry.entry-index in
    subst (λ over. IsPast (coordinate c.args.nums.now) over c.args.entries.now) over_is
    (past-whole (coordinate c.args.nums.now) (to_z w128 (of_z w128 c.args.den)) c.args.entries.now i c.entry-item.result c.loop-entry-test.true c.entry-item.is
    (c.in-None.ensures.past refl (subst (λ over. pos 0 <ℤ over) (sym over_is) c.requires.up) (take i c.args.entries.now) c.loop-entry.invariant))

pub loop-entry-preserved : goal.loop-entry-preserved
loop-entry-preserved c = best-more c.args.lower c.args.atom (coordinate c.args.nums.now) (to_z w128 (of_z w128 c.args.den)) c.args.entries.now c.loop-entry.entry-index c.entry-item.result c.in-Some.next
    c.loop-entry-test.true c.entry-item.is (c.in-Some.ensures.best (take c.loop-entry.entry-index c.args.entries.now) c.loop-entry.invariant)

pub returns-clause-best : goal.returns-clause-best
returns-clause-best c = subst (λ over. IsBest c.args.lower c.args.atom (coordinate c.args.nums.now) over c.args.entries.now c.loop-entry.best) (to_z-of_z w128 c.args.den c.ranges.den)
    (subst (λ l. IsBest c.args.lower c.args.atom (coordinate c.args.nums.now) (to_z w128 (of_z w128 c.args.den)) l c.loop-entry.best) (take_all c.loop-entry.entry-index c.args.entries.now c.loop-entry-test.false) c.loop-entry.invariant)
