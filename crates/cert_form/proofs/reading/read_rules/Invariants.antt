use Rattle.std.proofs.Common.{take}
use Rattle.serde_json.specs.View.{items_view}
use Rattle.cert_form.specs.Certificates.{Each, IsRule}
use Rattle.cert_form.proofs.reading.read_rules.Given as goal

abbrev pub invariant-loop-value : goal.invariant-loop-value
invariant-loop-value l = Each IsRule l.rules (items_view (take l.value-index l.values))
