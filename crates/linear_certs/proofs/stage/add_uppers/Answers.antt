use Rattle.std.proofs.Common.{◌<◌, ◌+◌, length, arith, refl, sym, subst, [], suc}
use Rattle.std.specs.Prelude.{filter}
use Rattle.std.specs.List.{flat_map}
use Rattle.linear_certs.specs.Stages.{pairs_of, is_upper, kept_once, lacks, eliminated}
use Rattle.linear_certs.proofs.StageLaws.{kept-step, uppers-append, stage-longer, stage-whole, stage-next}
use Rattle.linear_certs.proofs.stage.add_uppers.Goals as goal

pub add_upper-requires-clause-upper_in : goal.add_upper-requires-clause-upper_in
add_upper-requires-clause-upper_in c = (c.loop-upper.upper-index, c.loop-upper-test.true, sym c.upper-item.is)

pub loop-upper-preserved : goal.loop-upper-preserved
loop-upper-preserved c = (
  kept-step (λ l. flat_map (pairs_of c.args.atom c.args.stage.now) (filter (is_upper c.args.atom) l)) (uppers-append c.args.atom c.args.stage.now) (kept_once [] (filter (lacks c.args.atom) c.args.stage.now))
      c.loop-upper.next.items c.add_upper.new.next.items c.args.stage.now c.loop-upper.upper-index c.upper-item.result c.loop-upper-test.true c.upper-item.is c.loop-upper.invariant.0 c.in-Ok.ensures.ok,
  c.in-Ok.ensures.good,
)

pub returns-then-len-clause-err : goal.returns-then-len-clause-err
returns-then-len-clause-err c =
    let built = c.requires.built in
    let step = kept-step (λ l. flat_map (pairs_of c.args.atom c.args.stage.now) (filter (is_upper c.args.atom) l)) (uppers-append c.args.atom c.args.stage.now) (kept_once [] (filter (lacks c.args.atom) c.args.stage.now))
    c.loop-upper.next.items c.add_upper.new.next.items c.args.stage.now c.loop-upper.upper-index c.upper-item.result c.loop-upper-test.true c.upper-item.is c.loop-upper.invariant.0 c.in-Ok.ensures.ok in
    let longer = stage-longer c.args.atom c.args.stage.now c.add_upper.new.next.items (c.loop-upper.upper-index + 1) step in
    let next_is = stage-next c.args.rows.now c.args.atom c.args.stage.now built.number built.is built.least in
    let large : 20000 < length (eliminated c.args.atom c.args.stage.now) = omega (arith, c.len.ensures, longer) in
    (refl, (suc built.number, (subst (λ l. 20000 < length l) (sym next_is) large, λ j h. built.none_false j (omega arith))))

pub returns-clause-ok : goal.returns-clause-ok
returns-clause-ok c = stage-whole c.args.atom c.args.stage.now c.loop-upper.next.items c.loop-upper.upper-index c.loop-upper-test.false c.loop-upper.invariant.0
