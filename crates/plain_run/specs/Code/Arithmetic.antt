-- The arithmetic of `int`, before its numbers are values.
use Rattle.std.specs.Prelude.{ℤ, pos, ◌+ℤ◌, ◌-ℤ◌, ◌*ℤ◌, Bool, not, ◌&&◌, ◌||◌, int_lt, int_le, int_div, int_rem, if◌then◌else◌, Option, Some, None, Result, Ok, Err}
use Rattle.c_lang.specs.Values.{fits_int, is_zero}
use Rattle.c_lang.specs.Values as spec
use Rattle.c_lang.specs.declared.event.Trap.{Trap}
use Rattle.c_lang.specs.declared.event.Trap.TheVariants.{Overflow, Divide}
use Rattle.c_lang.specs.declared.expr.Op.{Op}
use Rattle.c_lang.specs.declared.expr.Op.TheVariants as op

abbrev pub Number : Type 0
Number = Result ℤ Trap

abbrev pub numbered : {F : Type 0} → Number → spec.Answer F
numbered (Ok z) = Ok (spec.Num z)
numbered (Err t) = Err t

abbrev pub in_int : ℤ → Number
in_int z = if fits_int z then Ok z else Err Overflow

abbrev pub truth : Bool → ℤ
truth b = if b then pos 1 else pos 0

abbrev pub negated : ℤ → Number
negated a = in_int (pos 0 -ℤ a)

abbrev pub sum : ℤ → ℤ → Number
sum a b = in_int (a +ℤ b)

abbrev pub difference : ℤ → ℤ → Number
difference a b = in_int (a -ℤ b)

abbrev pub product : ℤ → ℤ → Number
product a b = in_int (a *ℤ b)

abbrev pub quotient : ℤ → ℤ → Number
quotient a b = if is_zero b then Err Divide else in_int (int_div a b)

abbrev pub remainder : ℤ → ℤ → Number
remainder a b = if is_zero b then Err Divide else (if fits_int (int_div a b) then Ok (int_rem a b) else Err Overflow)

-- what `&&` and `||` give without their right operand, where the left one decides
abbrev pub settled : Op → ℤ → Option ℤ
settled op.And a = if is_zero a then Some (pos 0) else None
settled op.Or a = if is_zero a then None else Some (pos 1)
settled o a = None

-- `same` says whether the operands are the same value
abbrev pub applied : Op → ℤ → ℤ → Bool → Number
applied op.Mul a b same = product a b
applied op.Div a b same = quotient a b
applied op.Rem a b same = remainder a b
applied op.Add a b same = sum a b
applied op.Sub a b same = difference a b
applied op.Lt a b same = Ok (truth (int_lt a b))
applied op.Le a b same = Ok (truth (int_le a b))
applied op.Gt a b same = Ok (truth (int_lt b a))
applied op.Ge a b same = Ok (truth (int_le b a))
applied op.Eq a b same = Ok (truth same)
applied op.Ne a b same = Ok (truth (not same))
applied op.And a b same = Ok (truth (not (is_zero a) && not (is_zero b)))
applied op.Or a b same = Ok (truth (not (is_zero a) || not (is_zero b)))
