-- The words of faults, and the text of an event as it is printed, without the line's end.
use Rattle.std.specs.Prelude.{ℕ, Bool, true, false, List, ◌++◌, codes}
use Rattle.std.specs.Fmt.{decimal, signed_decimal}
use Rattle.c_lang.specs.Units.{word}
use Rattle.c_lang.specs.declared.event.Trap.{Trap}
use Rattle.c_lang.specs.declared.event.Trap.TheVariants.{Assert, Overflow, Divide, Index, NullCall}
use Rattle.c_lang.specs.declared.event.Event.{Event}
use Rattle.c_lang.specs.declared.event.Event.TheVariants.{Input, Output, Choice, Fault, End}

abbrev pub trap_word : Trap → List ℕ
trap_word Assert = codes "assert"
trap_word Overflow = codes "overflow"
trap_word Divide = codes "divide"
trap_word Index = codes "index"
trap_word NullCall = codes "nullcall"

-- 1 where the update was chosen, else 0
abbrev pub choice_digit : Bool → List ℕ
choice_digit true = codes "1"
choice_digit false = codes "0"

abbrev pub event_text : Event → List ℕ
event_text (Input v) = codes "in " ++ signed_decimal v
event_text (Output v) = codes "out " ++ signed_decimal v
event_text (Choice k chosen) = codes "choice " ++ decimal k ++ codes " " ++ choice_digit chosen
event_text (Fault trap p) = codes "fault " ++ trap_word trap ++ codes " " ++ word p.unit ++ codes " " ++ decimal p.line
event_text (End v) = codes "end " ++ signed_decimal v
