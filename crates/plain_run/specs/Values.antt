-- What the machine's values stand for.
use Rattle.std.specs.Prelude.{ℤ, pos, Result, Ok, Err}
use Rattle.c_lang.specs.Values as spec
use Rattle.c_lang.specs.declared.event.Trap.{Trap}
use Rattle.plain_run.specs.declared.value.Value.{Value}
use Rattle.plain_run.specs.declared.value.Value.TheVariants.{Num, Code, Null}

-- `see` says what a function is
abbrev pub seen_value : {X F : Type 0} → (X → F) → Value X → spec.Value F
seen_value see (Num z) = spec.Num z
seen_value see (Code f) = spec.Code (see f)
seen_value see Null = spec.Null

abbrev pub seen_answer : {X F : Type 0} → (X → F) → Result (Value X) Trap → spec.Answer F
seen_answer see (Ok v) = Ok (seen_value see v)
seen_answer see (Err t) = Err t

-- a number as such, and 0 for what is none
abbrev pub number_of : {X : Type 0} → Value X → ℤ
number_of (Num z) = z
number_of (Code f) = pos 0
number_of Null = pos 0
