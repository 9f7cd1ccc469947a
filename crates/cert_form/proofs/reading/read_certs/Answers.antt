use Rattle.std.proofs.Common.{List, Option, subst}
use Rattle.cert_form.specs.Certificates.{AreCerts}
use Rattle.cert_form.specs.Code.Reading.{Found}
use Rattle.cert_form.specs.declared.cert.Cert.{Cert}
use Rattle.cert_form.proofs.UniqueLaws.{certs-unique}
use Rattle.cert_form.proofs.reading.read_certs.Goals as goal

pub returns-in-Some-clause-only : goal.returns-in-Some-clause-only
returns-in-Some-clause-only c = λ certs within are.
    let found = subst (λ (o : Option (List (Option Cert))). Found (AreCerts c.args.bytes.now) o) c.in-Some.is c.in_ok-certs.ensures in
    certs-unique c.args.bytes.now c.in-Some.certs certs found are

pub returns-in-None-clause-only : goal.returns-in-None-clause-only
returns-in-None-clause-only c = λ certs within are.
    let nothing = subst (λ (o : Option (List (Option Cert))). Found (AreCerts c.args.bytes.now) o) c.in-None.is c.in_ok-certs.ensures in
    absurd (nothing certs are)
