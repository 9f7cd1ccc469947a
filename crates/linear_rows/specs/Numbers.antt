-- The sizes that rows may have.
use Rattle.std.specs.Prelude.{ℤ, pos, negsuc, zero, suc, ◌^◌, Bool, true, false, nat_le, nat_lt, Option, Some, None, if◌then◌else◌}

-- At most 2^100 in size.
abbrev pub fits : ℤ → Bool
fits (pos n) = nat_le n (2 ^ 100)
fits (negsuc n) = nat_lt n (2 ^ 100)

abbrev pub is_zero : ℤ → Bool
is_zero (pos zero) = true
is_zero (pos (suc n)) = false
is_zero (negsuc n) = false

-- The number, where it is at most 2^100 in size.
abbrev pub kept : ℤ → Option ℤ
kept number = if fits number then Some number else None
