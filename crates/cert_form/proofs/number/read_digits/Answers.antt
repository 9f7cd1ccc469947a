use Rattle.std.proofs.Common.{sym}
use Rattle.std.specs.Prelude.{Some}
use Rattle.cert_form.specs.Code.Numbers.{digits_from}
use Rattle.cert_form.proofs.Digits.{digits-stop}
use Rattle.cert_form.proofs.number.read_digits.Goals as goal

pub returns-in-None-clause-value : goal.returns-in-None-clause-value
returns-in-None-clause-value c =
    digits-stop (digits_from (Some 0) c.args.text.now) c.args.text.now c.loop-digit.digit-index c.loop-digit.size c.loop-digit.invariant.1 c.loop-digit-test.true (sym c.in-None.ensures.value)
