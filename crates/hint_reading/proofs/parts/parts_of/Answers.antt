use Rattle.std.proofs.Common.{rules, ◌≡◌, ◌<◌, slice_index_or, length, sym, ◌∙◌, subst}
use Rattle.hint_reading.specs.Code.Parts.{Fails, seen_parts}
use Rattle.hint_reading.proofs.DemandLaws.{item_met, item_fails, item_said}
use Rattle.hint_reading.proofs.parts.parts_of.Goals as goal

pub returns-in-Err : goal.returns-in-Err
returns-in-Err c =
    let less : c.loop-item.item-index < length c.args.items.now = search rules in
    let item : c.item-item.result ≡ slice_index_or c.args.items.now c.loop-item.item-index c.item-item.result = search rules in
    subst (Fails c.in-Err.fault) (sym c.loop-item.invariant.unmet)
    (item_fails c.args.names.now c.args.items.now c.loop-item.item-index c.item-item.result less item (seen_parts c.loop-item.parts) c.loop-item.invariant.seen
    c.in-Err.fault c.in-Err.ensures)

pub loop-item-preserved : goal.loop-item-preserved
loop-item-preserved c =
    let less : c.loop-item.item-index < length c.args.items.now = search rules in
    let item : c.item-item.result ≡ slice_index_or c.args.items.now c.loop-item.item-index c.item-item.result = search rules in
    record {
      unmet = c.loop-item.invariant.unmet ∙ item_met c.args.names.now c.args.items.now c.loop-item.item-index c.item-item.result less item
          (seen_parts c.loop-item.parts) c.loop-item.invariant.seen (c.in-Ok.ensures.0);
      seen = c.in-Ok.ensures.1 ∙ item_said c.args.names.now c.args.items.now c.loop-item.item-index c.item-item.result less item
          (seen_parts c.loop-item.parts) c.loop-item.invariant.seen;
    }
