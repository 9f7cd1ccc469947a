use Rattle.std.proofs.Common.{inl, subst, true, false, Some, None}
use Rattle.std.specs.Prelude.{IfSome}
use Rattle.std.specs.Int.{w128}
use Rattle.std.proofs.lemmas.Int.{to_z-of_z}
use Rattle.linear_certs.specs.Answers.{coordinate}
use Rattle.linear_certs.specs.Code.Limits.{IsBest, IsChosen}
use Rattle.linear_certs.proofs.SizeLaws.{if-some}
use Rattle.linear_certs.proofs.LimitLaws.{best-chosen}
use Rattle.linear_certs.proofs.limit.chosen.Goals as goal

pub returns-in-Some-Some-clause-chosen : goal.returns-in-Some-Some-clause-chosen
returns-in-Some-Some-clause-chosen c =
    let best = rw c.in-Some-Some.field-0-is at c.in-Some-Some.ensures.best in
    inl (subst (λ over. IsBest true c.args.atom (coordinate c.args.nums.now) over c.args.entries.now (Some c.in-Some-Some.limit)) (to_z-of_z w128 c.args.den c.ranges.den) best)

pub returns-in-Some-None-clause-chosen : goal.returns-in-Some-None-clause-chosen
returns-in-Some-None-clause-chosen c =
    let none = rw c.in-Some-None.field-0-is at c.in-Some-None.ensures.best in
    let over_is = to_z-of_z w128 c.args.den c.ranges.den in
    if-some (IsBest false c.args.atom (coordinate c.args.nums.now) c.args.den c.args.entries.now) (IsChosen c.args.atom (coordinate c.args.nums.now) c.args.den c.args.entries.now) c.tightest-in-Some-None.result
    (λ best is. best-chosen c.args.atom (coordinate c.args.nums.now) c.args.den c.args.entries.now best (subst (λ over. IsBest true c.args.atom (coordinate c.args.nums.now) over c.args.entries.now None) over_is none) is)
    (subst (λ over. IfSome c.tightest-in-Some-None.result (IsBest false c.args.atom (coordinate c.args.nums.now) over c.args.entries.now)) over_is c.tightest-in-Some-None.ensures.best)
