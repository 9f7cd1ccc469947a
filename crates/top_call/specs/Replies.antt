-- A reply, and the lines of refusals and of usage.
use Rattle.std.specs.Prelude.{◌++◌, codes}
use Rattle.c_lang.specs.Refusals.{refusal_text}
use Rattle.c_lang.specs.declared.refusal.Refusal.{Refusal}
use Rattle.top_call.specs.Words.{Text}
use Rattle.top_call.specs.declared.status.Status.{Status}
use Rattle.top_call.specs.declared.status.Status.TheVariants.{Done, Refused}

-- a status, and the text that is put
pub record Reply : Type 0 where
  pub status : Status
  pub text : Text

abbrev pub done : Text → Reply
done text = record { status = Done; text = text }

abbrev pub usage_line : Text
usage_line = codes "usage: dsu COMMAND FILES OPTIONS\n"

abbrev pub refusal_line : Refusal → Text
refusal_line refusal = refusal_text refusal ++ codes "\n"

abbrev pub refused : Refusal → Reply
refused refusal = record { status = Refused; text = refusal_line refusal }
