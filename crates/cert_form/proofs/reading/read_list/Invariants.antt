use Rattle.std.proofs.Common.{take}
use Rattle.serde_json.specs.View.{items_view}
use Rattle.cert_form.specs.Certificates.{Each, IsCert}
use Rattle.cert_form.proofs.reading.read_list.Given as goal

abbrev pub invariant-loop-value : goal.invariant-loop-value
invariant-loop-value l = Each IsCert l.certs (items_view (take l.value-index l.values))
