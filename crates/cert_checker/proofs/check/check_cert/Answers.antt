use Rattle.std.proofs.Common.{◌≡◌, ◌∙◌, true, sym}
use Rattle.std.proofs.lemmas.Result.{IfOk-weaker}
use Rattle.terms.specs.Validity.{Valid}
use Rattle.cert_checker.specs.Checks.{checks_sequent}
use Rattle.cert_checker.proofs.CheckLaws.{checked-valid}
use Rattle.cert_checker.proofs.check.check_cert.Goals as goal

pub returns-clause-valid : goal.returns-clause-valid
returns-clause-valid c = IfOk-weaker c.checks_all.result (λ yes. yes ≡ checks_sequent c.args.sequent.now c.args.cert.now.rules) (λ yes. yes ≡ true → Valid c.args.sequent.now)
    (λ yes is h. checked-valid c.args.sequent.now c.args.cert.now (record { is_checked = sym is ∙ h })) c.checks_all.ensures
