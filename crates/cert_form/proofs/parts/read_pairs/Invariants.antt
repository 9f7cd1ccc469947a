use Rattle.std.proofs.Common.{◌≡◌, drop}
use Rattle.serde_json.specs.View.{items_view}
use Rattle.cert_form.specs.Code.Reading.{each, after, pair_in}
use Rattle.cert_form.proofs.parts.read_pairs.Given as goal

abbrev pub invariant-loop-value : goal.invariant-loop-value
invariant-loop-value l = each pair_in (items_view l.values) ≡ after l.sum (each pair_in (items_view (drop l.value-index l.values)))
