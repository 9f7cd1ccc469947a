use Rattle.std.proofs.Common.{◌≡◌, map, take}
use Rattle.serde_json.specs.View.{view}
use Rattle.cert_form.specs.Written.{cert_data}
use Rattle.cert_form.proofs.writing.certs_value.Given as goal

abbrev pub invariant-loop-cert : goal.invariant-loop-cert
invariant-loop-cert l = map view l.values.items ≡ map cert_data (take l.cert-index l.certs)
