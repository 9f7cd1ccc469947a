use Rattle.std.proofs.Common.{rules, ◌≡◌, ◌∙◌, ◌<◌, ◌-◌, pos, refl, arith, ap, sym, subst, length, FitsSigned, None, ◌<ℤ◌}
use Rattle.std.specs.List.{All}
use Rattle.std.specs.Int.{w128}
use Rattle.std.proofs.lemmas.Int.{to_z-of_z}
use Rattle.linear_rows.specs.Sums.{Holds}
use Rattle.linear_certs.specs.Stages.{stage, least_atom}
use Rattle.linear_certs.specs.Points.{IsPartialPoint}
use Rattle.linear_certs.specs.Answers.{coordinate}
use Rattle.linear_certs.proofs.AtomLaws.{least-below}
use Rattle.linear_certs.proofs.CountLaws.{zeros-value, zeros-length}
use Rattle.linear_certs.proofs.EliminationLaws.{good-forms}
use Rattle.linear_certs.proofs.FarLaws.{far-nums}
use Rattle.linear_certs.proofs.LeastLaws.{least-from}
use Rattle.linear_certs.proofs.PartialLaws.{partial-first, partial-next, still-zero, stage-left, part-left, none-false}
use Rattle.linear_certs.proofs.SatisfiedLaws.{point-satisfies}
use Rattle.linear_certs.proofs.point.point.Goals as goal

pub loop-left-init : goal.loop-left-init
loop-left-init c =
    let rows = c.args.rows.now in
    let items = c.in-Ok.ensures in
    let last : stage rows (length c.as_slice-stages.result.now) ≡ c.args.whole.now.last = ap (λ l. stage rows (length l)) c.as_slice-stages.ensures ∙ c.requires.last in
    let count : length c.in-Ok.nums.items ≡ c.atom_count.result = ap length items ∙ zeros-length c.atom_count.result in record {
      within = omega arith;
      part = partial-first rows (length c.as_slice-stages.result.now) c.args.whole.now.last (coordinate c.in-Ok.nums.items) last c.requires.none (λ a. ap (λ l. coordinate l a) items ∙ zeros-value c.atom_count.result a);
      count = subst (λ n. All (λ row. All (λ part. part.0 < n) row.parts) rows) (sym count) c.atom_count.ensures;
    }

pub give_value-requires-clause-from : goal.give_value-requires-clause-from
give_value-requires-clause-from c =
    let rows = c.args.rows.now in
    let built = c.index-stages-left.result in
    let at = stage-left rows c.args.whole.now c.as_slice-stages.result.now c.loop-left.left built c.requires c.as_slice-stages.ensures c.loop-left-test.true c.loop-left.invariant.within c.index-stages-left.is in
    least-from built.atom built.entries (good-forms rows built.entries at.good) at.least

pub give_value-requires-clause-within : goal.give_value-requires-clause-within
give_value-requires-clause-within c =
    let rows = c.args.rows.now in
    let built = c.index-stages-left.result in
    let at = stage-left rows c.args.whole.now c.as_slice-stages.result.now c.loop-left.left built c.requires c.as_slice-stages.ensures c.loop-left-test.true c.loop-left.invariant.within c.index-stages-left.is in
    least-below rows (c.loop-left.left - 1) built.atom (length c.loop-left.numbers.nums.items) c.loop-left.invariant.count (ap least_atom at.is ∙ at.least)

pub give_value-requires-clause-still_zero : goal.give_value-requires-clause-still_zero
give_value-requires-clause-still_zero c =
    let rows = c.args.rows.now in
    let built = c.index-stages-left.result in
    let point = coordinate c.loop-left.numbers.nums.items in
    let at = stage-left rows c.args.whole.now c.as_slice-stages.result.now c.loop-left.left built c.requires c.as_slice-stages.ensures c.loop-left-test.true c.loop-left.invariant.within c.index-stages-left.is in
    still-zero rows (c.loop-left.left - 1) built point c.loop-left.numbers.den at (part-left rows c.loop-left.left point c.loop-left.numbers.den c.loop-left-test.true c.loop-left.invariant.part)

pub returns-in-None : goal.returns-in-None
returns-in-None c =
    let rows = c.args.rows.now in
    let built = c.index-stages-left.result in
    let nums = c.loop-left.numbers.nums.items in
    let at = stage-left rows c.args.whole.now c.as_slice-stages.result.now c.loop-left.left built c.requires c.as_slice-stages.ensures c.loop-left-test.true c.loop-left.invariant.within c.index-stages-left.is in (
      none-false rows c.args.whole.now c.requires,
      far-nums rows (c.loop-left.left - 1) built nums c.loop-left.numbers.den at
          (least-below rows (c.loop-left.left - 1) built.atom (length nums) c.loop-left.invariant.count (ap least_atom at.is ∙ at.least))
          (part-left rows c.loop-left.left (coordinate nums) c.loop-left.numbers.den c.loop-left-test.true c.loop-left.invariant.part) (c.in-None.ensures.past refl),
    )

pub loop-left-preserved : goal.loop-left-preserved
loop-left-preserved c =
    let rows = c.args.rows.now in
    let built = c.index-stages-left.result in
    let nums = c.loop-left.numbers.nums.items in
    let at = stage-left rows c.args.whole.now c.as_slice-stages.result.now c.loop-left.left built c.requires c.as_slice-stages.ensures c.loop-left-test.true c.loop-left.invariant.within c.index-stages-left.is in
    let within = c.loop-left.invariant.within in record {
      within = omega arith;
      part = partial-next rows (c.loop-left.left - 1) built (coordinate nums) c.loop-left.numbers.den (coordinate c.in-Some.next.nums.items) c.in-Some.next.den at
          (part-left rows c.loop-left.left (coordinate nums) c.loop-left.numbers.den c.loop-left-test.true c.loop-left.invariant.part) c.in-Some.ensures.value;
      count = subst (λ n. All (λ row. All (λ part. part.0 < n) row.parts) rows) (sym c.in-Some.ensures.count) c.loop-left.invariant.count;
    }

pub returns : goal.returns
returns c =
    let rows = c.args.rows.now in
    let point = coordinate c.loop-left.numbers.nums.items in
    let fits : FitsSigned w128 c.loop-left.numbers.den = search rules in
    let over_is = to_z-of_z w128 c.loop-left.numbers.den fits in
    let none_left : c.loop-left.left ≡ 0 = omega (arith, c.loop-left-test.false) in
    let part = subst (λ n. IsPartialPoint rows n point c.loop-left.numbers.den) none_left c.loop-left.invariant.part in
    let m = length c.args.whole.now.stages in
    let none : least_atom (stage rows m) ≡ None = ap least_atom c.requires.last ∙ c.requires.none in
    subst (λ over. (pos 0 <ℤ over) × All (Holds point over) rows) (sym over_is)
    (part.positive, point-satisfies rows m point c.loop-left.numbers.den part none (none-false rows c.args.whole.now c.requires m))
