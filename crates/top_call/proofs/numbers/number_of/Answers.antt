use Rattle.std.proofs.Common.{sym}
use Rattle.top_call.proofs.NumberLemmas.{not-number}
use Rattle.top_call.proofs.numbers.number_of.Goals as goal

pub returns-in_default : goal.returns-in_default
returns-in_default c = sym (not-number c.args.text.now c.in_default.ensures.value.0)
