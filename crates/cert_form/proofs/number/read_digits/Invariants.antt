use Rattle.std.proofs.Common.{◌≡◌, ◌≤◌, ◌^◌, drop}
use Rattle.std.specs.Prelude.{Some}
use Rattle.cert_form.specs.Code.Numbers.{digits_from}
use Rattle.cert_form.proofs.number.read_digits.Given as goal

abbrev pub invariant-loop-digit : goal.invariant-loop-digit
invariant-loop-digit l = (l.size ≤ 2 ^ 100) × (digits_from (Some 0) l.text ≡ digits_from (Some l.size) (drop l.digit-index l.text))
