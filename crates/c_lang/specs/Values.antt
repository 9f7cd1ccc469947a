-- Values, and the arithmetic of `int`: 32 bits in two's complement, without wrapping.
use Rattle.std.specs.Prelude.{zero, suc, ◌^◌, ℤ, pos, negsuc, ◌+ℤ◌, ◌-ℤ◌, ◌*ℤ◌, Bool, true, false, nat_lt, int_div, int_rem, if◌then◌else◌, Result, Ok, Err}
use Rattle.c_lang.specs.declared.event.Trap.{Trap}
use Rattle.c_lang.specs.declared.event.Trap.TheVariants.{Overflow, Divide}

-- A value is a number, a function or null. F is what functions are: names in a plain run, names
-- with the version that they belong to in an updating run.
pub data Value (F : Type 0) : Type 0 where
  Num : ℤ → Value F
  Code : F → Value F
  Null : Value F

-- what an evaluation gives: a value, or the first trap
abbrev pub Answer : Type 0 → Type 0
Answer F = Result (Value F) Trap

-- a number as such, and 0 for what is none, which no typed program asks for
abbrev pub number : {F : Type 0} → Value F → ℤ
number (Num z) = z
number (Code f) = pos 0
number Null = pos 0

-- -2147483648 to 2147483647
abbrev pub fits_int : ℤ → Bool
fits_int (pos n) = nat_lt n (2 ^ 31)
fits_int (negsuc n) = nat_lt n (2 ^ 31)

abbrev pub in_range : {F : Type 0} → ℤ → Answer F
in_range z = if fits_int z then Ok (Num z) else Err Overflow

abbrev pub is_zero : ℤ → Bool
is_zero (pos zero) = true
is_zero (pos (suc n)) = false
is_zero (negsuc n) = false

-- 1 or 0
abbrev pub truth : {F : Type 0} → Bool → Answer F
truth b = Ok (Num (if b then pos 1 else pos 0))

abbrev pub negated : {F : Type 0} → ℤ → Answer F
negated a = in_range (pos 0 -ℤ a)

abbrev pub sum : {F : Type 0} → ℤ → ℤ → Answer F
sum a b = in_range (a +ℤ b)

abbrev pub difference : {F : Type 0} → ℤ → ℤ → Answer F
difference a b = in_range (a -ℤ b)

abbrev pub product : {F : Type 0} → ℤ → ℤ → Answer F
product a b = in_range (a *ℤ b)

-- toward zero
abbrev pub quotient : {F : Type 0} → ℤ → ℤ → Answer F
quotient a b = if is_zero b then Err Divide else in_range (int_div a b)

-- Overflow where the quotient is out of range
abbrev pub remainder : {F : Type 0} → ℤ → ℤ → Answer F
remainder a b =
    if is_zero b then Err Divide else (if fits_int (int_div a b) then Ok (Num (int_rem a b)) else Err Overflow)
