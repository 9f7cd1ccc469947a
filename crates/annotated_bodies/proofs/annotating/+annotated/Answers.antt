use Rattle.std.proofs.Common.{ap, ◌∙◌}
use Rattle.annotated_bodies.specs.Places.{seen_place}
use Rattle.annotated_bodies.specs.Seen.{seen_body}
use Rattle.annotated_bodies.specs.Sources.{context_in}
use Rattle.annotated_bodies.proofs.BodyLaws.{made_more, place_more, made_all}
use Rattle.annotated_bodies.proofs.annotating.+annotated.Goals as goal

pub annotated_all-loop-stmt-preserved : goal.annotated_all-loop-stmt-preserved
annotated_all-loop-stmt-preserved t c =
    let context = context_in c.args.context.now in
    let at = seen_place c.loop-stmt.place in
    let next = seen_place c.annotated.new.place in
    record {
      made = made_more context c.args.func.now c.args.stmts.now c.loop-stmt.stmt-index c.stmt-item.result c.loop-stmt-test.true c.stmt-item.is at next
          c.in_ok-annotated.ensures.place c.loop-stmt.all.items c.push.new.self.items c.in_ok-annotated.field-0 _
          c.in_ok-push.ensures.items c.in_ok-annotated.ensures.made c.loop-stmt.invariant.made;
      place = place_more context c.args.func.now c.args.stmts.now c.loop-stmt.stmt-index c.stmt-item.result c.loop-stmt-test.true c.stmt-item.is at next
          c.in_ok-annotated.ensures.place _ c.loop-stmt.invariant.place;
    }

pub annotated_all-returns-clause-made : goal.annotated_all-returns-clause-made
annotated_all-returns-clause-made t c =
    ap seen_body c.from_vec.ensures
    ∙ made_all (context_in c.args.context.now) c.args.func.now c.args.stmts.now c.loop-stmt.stmt-index (seen_place c.loop-stmt.place) c.loop-stmt.all.items _
    c.loop-stmt-test.false c.loop-stmt.invariant.made
