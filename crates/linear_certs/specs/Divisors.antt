-- Greatest common divisors.
use Rattle.std.specs.Prelude.{ℕ, suc, zero, ◌%◌, ◌&&◌, if◌then◌else◌, nat_eq}

-- The greatest number from 1 to `most` that divides both, and 1 where `most` is 0.
unfoldable pub common_below : ℕ → ℕ → ℕ → ℕ
common_below zero p n = 1
common_below (suc most) p n = if nat_eq (p % suc most) 0 && nat_eq (n % suc most) 0 then suc most else common_below most p n

unfoldable pub gcd : ℕ → ℕ → ℕ
gcd p n = common_below p p n
