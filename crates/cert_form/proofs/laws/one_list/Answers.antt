use Rattle.cert_form.proofs.UniqueLaws.{certs-unique}
use Rattle.cert_form.proofs.laws.one_list.Goals as goal

pub returns : goal.returns
returns c = certs-unique
